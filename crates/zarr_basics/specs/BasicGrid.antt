-- What a `BasicGrid` stands for, case by case.
use Rattle.std.specs.Prelude.{ℕ, List, codes, refl, IsTrue}
use Rattle.serde_json.specs.Data.{Members}
use Rattle.zarr_model.specs.Prelude.{Grid, CoversShape}
use Rattle.zarrs_chunk_grid.specs.Making.{ConfiguredGrid}
use Rattle.zarr_basics.specs.BoundaryGrid.{shape_of_boundary, form_of_boundary, covers_boundary}
use Rattle.zarr_basics.specs.BoundaryConfigurations.{members_of}
use Rattle.zarr_basics.specs.GridForms.{ChunkGrid, grid_of}
use Rattle.zarr_basics.specs.GridOf.{shape_of_regular, form_of_regular, covers_regular}
use Rattle.zarr_basics.specs.GridMaking.{configured_grid, is_basic}
use Rattle.zarr_basics.specs.declared.basic_grid.BasicGrid.{BasicGrid}
use Rattle.zarr_basics.specs.declared.basic_grid.BasicGrid.TheVariants.{Regular, Boundary}

abbrev pub basic_shape : BasicGrid → List ℕ
basic_shape (Regular grid) = shape_of_regular grid
basic_shape (Boundary grid) = shape_of_boundary grid

abbrev pub basic_form : BasicGrid → ChunkGrid
basic_form (Regular grid) = form_of_regular grid
basic_form (Boundary grid) = form_of_boundary grid

abbrev pub basic_grid : BasicGrid → Grid
basic_grid grid = grid_of (basic_shape grid) (basic_form grid)

-- its name, and the members of its configuration
abbrev pub basic_name : BasicGrid → List ℕ
basic_name (Regular grid) = codes "regular"
basic_name (Boundary grid) = codes "zarr_basics.boundaries"

abbrev pub basic_members : BasicGrid → Members
basic_members grid = members_of (basic_form grid)

-- the grid with its configuration
abbrev pub basic_configured : BasicGrid → ConfiguredGrid
basic_configured grid = configured_grid (basic_shape grid) (basic_form grid)

-- it cuts the array into parts
pub basic_covers : (grid : BasicGrid) → CoversShape (basic_shape grid) (basic_grid grid)
basic_covers (Regular grid) = covers_regular grid
basic_covers (Boundary grid) = covers_boundary grid

-- its name is known
pub knows_basic : (grid : BasicGrid) → IsTrue (is_basic (basic_name grid))
knows_basic (Regular grid) = refl
knows_basic (Boundary grid) = refl
