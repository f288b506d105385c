-- What a `BoundaryGrid` stands for.
use Rattle.std.specs.Prelude.{ℕ, List}
use Rattle.zarr_model.specs.Prelude.{Grid, CoversShape}
use Rattle.zarr_model.proofs.LandingLaws.{are_cut_cover}
use Rattle.zarr_basics.specs.Axes.{lengths_of}
use Rattle.zarr_basics.specs.GridForms.{ChunkGrid, boundaries, grid_of}
use Rattle.zarr_basics.specs.declared.boundary_grid.BoundaryGrid.{BoundaryGrid}

abbrev pub shape_of_boundary : BoundaryGrid → List ℕ
shape_of_boundary grid = grid.array_shape.items

abbrev pub form_of_boundary : BoundaryGrid → ChunkGrid
form_of_boundary grid = boundaries (lengths_of grid.axes.items)

abbrev pub grid_of_boundary : BoundaryGrid → Grid
grid_of_boundary grid = grid_of grid.array_shape.items (form_of_boundary grid)

-- it cuts the array into parts
pub covers_boundary : (grid : BoundaryGrid)
    → CoversShape (shape_of_boundary grid) (grid_of_boundary grid)
covers_boundary grid = are_cut_cover grid.array_shape.items (lengths_of grid.axes.items) grid.cut
