-- Numbers of chunks, and chunks whose lengths can't be stored.
use Rattle.std.specs.Prelude.{ℕ, ◌^◌, ◌||◌, nat_le, nat_lt, Bool, List, length}
use Rattle.std.specs.List.{list_all, list_any}
use Rattle.zarr_model.specs.Prelude.{count, Grid, chunks}

-- each number of chunks has the range of a `u64`
abbrev pub are_countable : List ℕ → Bool
are_countable grid_shape = list_all (λ n. nat_le n (2 ^ 64)) grid_shape

-- there are chunks in each dimension, and so there is one
abbrev pub have_chunks : List ℕ → Bool
have_chunks grid_shape = list_all (λ n. nat_lt 0 n) grid_shape

-- the number of a chunk's elements, or the length of these bytes, does not fit 4 bytes
abbrev pub is_long_chunk : Grid → List ℕ → List ℕ → Bool
is_long_chunk grid filler chunk =
    nat_le (2 ^ 32) (count (grid.chunk_box chunk)) || nat_le (2 ^ 32) (length filler)

-- some chunk of the grid is so
abbrev pub has_long_chunk : Grid → List ℕ → Bool
has_long_chunk grid filler = list_any (is_long_chunk grid filler) (chunks grid)
