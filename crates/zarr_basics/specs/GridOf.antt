-- What a `RegularGrid` stands for.
use Rattle.std.specs.Prelude.{ℕ, List}
use Rattle.zarr_model.specs.Prelude.{Grid, CoversShape}
use Rattle.zarrs_chunk_grid.proofs.RegularCovers.{regular_covers}
use Rattle.zarr_basics.specs.GridForms.{ChunkGrid, regular, grid_of}
use Rattle.zarr_basics.specs.Lengths.{nonzeros}
use Rattle.zarr_basics.specs.declared.regular_grid.RegularGrid.{RegularGrid}

abbrev pub shape_of_regular : RegularGrid → List ℕ
shape_of_regular grid = grid.array_shape.items

abbrev pub form_of_regular : RegularGrid → ChunkGrid
form_of_regular grid = regular (nonzeros grid.chunk_shape.items)

abbrev pub grid_of_regular : RegularGrid → Grid
grid_of_regular grid = grid_of grid.array_shape.items (form_of_regular grid)

-- it cuts the array into parts
pub covers_regular : (grid : RegularGrid)
    → CoversShape (shape_of_regular grid) (grid_of_regular grid)
covers_regular grid = regular_covers grid.array_shape.items grid.chunk_shape.items grid.rank
