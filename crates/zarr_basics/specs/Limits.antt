-- Which chunks are too large for elements of a size.
use Rattle.std.specs.Prelude.{ℕ, Bool, ◌||◌, not, List, Option}
use Rattle.std.specs.List.{list_any}
use Rattle.zarr_model.specs.Prelude.{starts, sizes, count, Grid, chunks, is_too_large}
use Rattle.zarrs_array_subset.specs.Boxes.{is_box}

-- the box of a chunk ends past 64 bits, or has too many elements of a size
abbrev pub is_large_chunk : Grid → Option ℕ → List ℕ → Bool
is_large_chunk grid size chunk =
    not (is_box (starts (grid.chunk_box chunk)) (sizes (grid.chunk_box chunk)))
    || is_too_large size (count (grid.chunk_box chunk))

-- some chunk of the grid is
abbrev pub has_large_chunk : Grid → Option ℕ → Bool
has_large_chunk grid size = list_any (is_large_chunk grid size) (chunks grid)
