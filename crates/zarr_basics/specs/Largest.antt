-- The lengths of a largest chunk of a grid.
use Rattle.std.specs.Prelude.{◌≡◌, ℕ, ◌≤◌, Bool, false, List}
use Rattle.zarr_model.specs.Prelude.{Grid, IsChunk, count, count_of, sizes}

-- no chunk has more elements than these lengths say, and where there is a chunk, one has these
pub record AreLargest (grid : Grid) (lengths : List ℕ) : Type 0 where
  pub bound : (chunk : List ℕ) → IsChunk grid chunk →
      count (grid.chunk_box chunk) ≤ count_of lengths
  pub reached : (chunk : List ℕ) → IsChunk grid chunk →
      (largest : List ℕ) × IsChunk grid largest × (sizes (grid.chunk_box largest) ≡ lengths)

-- a test that a number does not pass is not passed by a smaller one
abbrev pub Grows : (ℕ → Bool) → Type 0
Grows test = (n m : ℕ) → n ≤ m → test m ≡ false → test n ≡ false
