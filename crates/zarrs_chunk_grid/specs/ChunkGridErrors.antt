-- When a grid refuses a call.
use Rattle.std.specs.Prelude.{◌≡◌, ◌≢◌, ◌⊎◌, ℕ, false, true, List, length, Option, Some, None, option_map, Result, Ok}
use Rattle.std.specs.Prelude.{Err}
use Rattle.zarr_model.specs.Region.{Region, count, ends_within}
use Rattle.zarr_model.specs.Grid.{Grid}
use Rattle.zarrs_array_subset.specs.ArraySubset.{region}
use Rattle.zarrs_array_subset.specs.declared.array_subset.ArraySubset.{ArraySubset}
use Rattle.zarrs_chunk_grid.specs.ChunkGrid.{AreMet, empty_region}
use Rattle.zarrs_chunk_grid.specs.declared.chunk_grid_error.ChunkGridError.{ChunkGridError}
use Rattle.zarrs_chunk_grid.specs.declared.chunk_grid_error.ChunkGridError.TheVariants.{IncompatibleDimensionality}
use Rattle.zarrs_chunk_grid.specs.declared.chunk_grid_error.ChunkGridError.TheVariants.{OutOfMemory}

-- another rank than the expected one is refused, and memory may run out
abbrev pub IsRankRefusal : ℕ → ℕ → ChunkGridError → Type 0
IsRankRefusal got expected OutOfMemory = Unit {0}
IsRankRefusal got expected (IncompatibleDimensionality e) =
    (e.got ≡ got) × (e.expected ≡ expected) × (got ≢ expected)

-- a call on indices of a rank: another rank than the grid's is refused, else it gives this answer
abbrev pub AnswersGrid : {X Y : Type 0} → (X → Y) → Result (Option X) ChunkGridError → ℕ → ℕ → Option Y
    → Type 0
AnswersGrid seen (Ok answer) got expected told = (got ≡ expected) × (option_map seen answer ≡ told)
AnswersGrid seen (Err error) got expected told = IsRankRefusal got expected error

-- the chunks of a region over a shape: the empty region of the shape's rank where it is empty, else
-- a refusal of another rank, none where it is not inside, or the chunks that it meets
abbrev pub MeetsChunks : Grid → List ℕ → Region → Result (Option ArraySubset) ChunkGridError
    → Type 0
MeetsChunks grid shape met (Ok (Some chunks)) =
    ((count met ≡ 0) × (region chunks ≡ empty_region (length shape)))
    ⊎ ((count met ≢ 0) × (ends_within met shape ≡ true) × AreMet grid met (region chunks))
MeetsChunks grid shape met (Ok None) =
    (count met ≢ 0) × (length met ≡ length shape) × (ends_within met shape ≡ false)
MeetsChunks grid shape met (Err OutOfMemory) = Unit {0}
MeetsChunks grid shape met (Err (IncompatibleDimensionality e)) =
    (count met ≢ 0) × IsRankRefusal (length met) (length shape) (IncompatibleDimensionality e)
