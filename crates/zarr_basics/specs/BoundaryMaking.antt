-- What grids are made of metadata.
use Rattle.std.specs.Prelude.{◌≡◌, ℕ, Bool, if◌then◌else◌, List, codes, bytes_eq, Option, Some, None, option_map}
use Rattle.std.specs.Prelude.{Result, Ok, Err}
use Rattle.serde_json.specs.Data.{Members}
use Rattle.zarrs_chunk_grid.proofs.KnownNames.{refuses_names}
use Rattle.zarrs_chunk_grid.specs.Making.{ConfiguredGrid, RefusesNames}
use Rattle.zarrs_metadata_parts.specs.Making.{or_config}
use Rattle.zarrs_metadata_parts.specs.MetadataV3.{Extension}
use Rattle.zarrs_plugin.specs.Making.{Unmade, unsupported}
use Rattle.zarr_basics.specs.BoundaryConfigurations.{lengths_in, members_of}
use Rattle.zarr_basics.specs.GridForms.{ChunkGrid, boundaries, grid_of}

-- the grid that a configuration says over a shape
abbrev pub boundary_form : List ℕ → Option Members → Option ChunkGrid
boundary_form shape configuration = option_map boundaries (lengths_in shape configuration)

-- a grid by name over a shape, with its configuration
abbrev pub configured_grid : List ℕ → ChunkGrid → ConfiguredGrid
configured_grid shape form = record { members = members_of form; grid = grid_of shape form }

abbrev pub over_shape : List ℕ → Result ChunkGrid Unmade → Result ConfiguredGrid Unmade
over_shape shape (Ok form) = Ok (configured_grid shape form)
over_shape shape (Err why) = Err why

-- whether metadata of this name is of a grid of boundaries
abbrev pub is_boundaries : List ℕ → Bool
is_boundaries name = bytes_eq name (codes "zarr_basics.boundaries")

-- the grid of boundaries of metadata, which has to have its name
abbrev pub boundary_created : Extension → List ℕ → Result ConfiguredGrid Unmade
boundary_created e shape = if is_boundaries e.name
    then over_shape shape (or_config (boundary_form shape e.configuration))
    else Err (unsupported e.name)

-- a configuration is not refused for a name
pub not_for_name : (shape name : List ℕ) (form : Option ChunkGrid)
    → over_shape shape (or_config form) ≡ Err (unsupported name) → ⊥
not_for_name shape name None h = cc
not_for_name shape name (Some form) h = cc

-- metadata is refused for its name exactly where that is not the grid's
pub boundaries_refuse_others : RefusesNames is_boundaries boundary_created
boundaries_refuse_others = refuses_names is_boundaries
    (λ e shape. over_shape shape (or_config (boundary_form shape e.configuration)))
    (λ e shape name. not_for_name shape name (boundary_form shape e.configuration))
