-- The grids that documents name.
use Rattle.std.specs.Prelude.{ℕ, List}
use Rattle.zarr_model.specs.Prelude.{Grid, regular_grid, boundary_grid}

-- a grid by name: a chunk shape, or the chunk lengths in each dimension
pub data ChunkGrid : Type 0 where
  regular : List ℕ → ChunkGrid
  boundaries : List (List ℕ) → ChunkGrid

-- what it is over an array's shape
abbrev pub grid_of : List ℕ → ChunkGrid → Grid
grid_of shape (regular chunk_shape) = regular_grid shape chunk_shape
grid_of shape (boundaries lengths) = boundary_grid lengths
