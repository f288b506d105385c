-- What grids are made of metadata.
use Rattle.std.specs.Prelude.{◌≡◌, ℕ, Bool, true, false, ◌||◌, ◌↔◌, if◌then◌else◌, List, codes, bytes_eq, Option}
use Rattle.std.specs.Prelude.{option_map, Result, Err}
use Rattle.serde_json.specs.Data.{Members}
use Rattle.zarrs_chunk_grid.proofs.KnownNames.{refuses_names}
use Rattle.zarrs_chunk_grid.specs.Making.{ConfiguredGrid, RefusesNames}
use Rattle.zarrs_metadata_parts.specs.Making.{or_config}
use Rattle.zarrs_metadata_parts.specs.MetadataV3.{Extension}
use Rattle.zarrs_plugin.specs.Making.{Unmade, unsupported}
use Rattle.zarr_basics.specs.GridForms.{ChunkGrid, regular}
use Rattle.zarr_basics.specs.BoundaryMaking as boundary
pub use Rattle.zarr_basics.specs.BoundaryMaking.{configured_grid, over_shape, boundary_form, is_boundaries}
pub use Rattle.zarr_basics.specs.BoundaryMaking.{boundary_created}
use Rattle.zarr_basics.specs.GridConfigurations.{chunk_shape_in}
use Rattle.zarr_basics.specs.declared.grid_kind.GridKind.{GridKind}
use Rattle.zarr_basics.specs.declared.grid_kind.GridKind.TheVariants.{Regular, Boundary}

-- the configurations of each kind, with the grids that they say over a shape
abbrev pub regular_form : List ℕ → Option Members → Option ChunkGrid
regular_form shape configuration = option_map regular (chunk_shape_in shape configuration)

abbrev pub grid_form : List ℕ → GridKind → Option Members → Option ChunkGrid
grid_form shape Regular configuration = regular_form shape configuration
grid_form shape Boundary configuration = boundary_form shape configuration

-- whether metadata of this name is of the grid `regular`
abbrev pub is_regular : List ℕ → Bool
is_regular name = bytes_eq name (codes "regular")

-- the grid `regular` of metadata, which has to have its name
abbrev pub regular_created : Extension → List ℕ → Result ConfiguredGrid Unmade
regular_created e shape = if is_regular e.name
    then over_shape shape (or_config (regular_form shape e.configuration))
    else Err (unsupported e.name)

-- metadata is refused for its name exactly where that is not `regular`
pub refuses_others : RefusesNames is_regular regular_created
refuses_others = refuses_names is_regular
    (λ e shape. over_shape shape (or_config (regular_form shape e.configuration)))
    (λ e shape name. boundary.not_for_name shape name (regular_form shape e.configuration))

-- whether a grid goes by this name
abbrev pub is_basic : List ℕ → Bool
is_basic name = is_boundaries name || is_regular name

-- the grid of metadata, by its name
abbrev pub basic_created : Extension → List ℕ → Result ConfiguredGrid Unmade
basic_created e shape = if is_boundaries e.name then boundary_created e shape
    else regular_created e shape

-- metadata is refused for its name exactly where that is neither
pub refuses_unnamed : RefusesNames is_basic basic_created
refuses_unnamed e shape name = go (is_boundaries e.name)
    (boundary.boundaries_refuse_others e shape name)
    (refuses_others e shape name)
  where
    go : (b : Bool)
        → (boundary_created e shape ≡ Err (unsupported name)) ↔ ((name ≡ e.name) × (b ≡ false))
        → (regular_created e shape ≡ Err (unsupported name))
        ↔ ((name ≡ e.name) × (is_regular e.name ≡ false))
        → ((if b then boundary_created e shape else regular_created e shape)
        ≡ Err (unsupported name)) ↔ ((name ≡ e.name) × ((b || is_regular e.name) ≡ false))
    go true first second = first
    go false first second = second
