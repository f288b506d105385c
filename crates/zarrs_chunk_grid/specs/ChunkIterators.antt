-- What iterators over the chunks of a grid give.
use Rattle.std.specs.Prelude.{◌≡◌, ℕ, Bool, ◌&&◌, List, Result, IfOk}
use Rattle.std.specs.declared.alloc.AllocError.{AllocError}
use Rattle.smallvec.specs.SmallVec.{SmallVec}
use Rattle.zarr_model.specs.Region.{starts, sizes, whole, contains}
use Rattle.zarr_model.specs.Grid.{Grid}
use Rattle.zarrs_array_subset.specs.ArraySubset.{region}
use Rattle.zarrs_array_subset.specs.Boxes.{is_box}
use Rattle.zarrs_array_subset.specs.declared.array_subset.ArraySubset.{ArraySubset}

-- the indices of a chunk whose box ends within 64 bits
abbrev pub is_small_chunk : Grid → List ℕ → Bool
is_small_chunk grid chunk =
    contains (whole grid.grid_shape) chunk
    && is_box (starts (grid.chunk_box chunk)) (sizes (grid.chunk_box chunk))

-- an item is the box of this chunk, or want of memory
abbrev pub IsBoxOf : Grid → List ℕ → Result ArraySubset AllocError → Type 0
IsBoxOf grid chunk item = IfOk item (λ subset. region subset ≡ grid.chunk_box chunk)

-- an item is this chunk and its box, or want of memory
abbrev pub IsChunkWithBox : Grid → List ℕ → Result (SmallVec ℕ × ArraySubset) AllocError → Type 0
IsChunkWithBox grid chunk item =
    IfOk item (λ p. (p.0.items ≡ chunk) × (region p.1 ≡ grid.chunk_box chunk))
