-- The grid `regular` that a configuration says.
use Rattle.std.proofs.Common.{◌≡◌, ℕ, List, Option, Some, None, option_map, Result, Ok, refl, ap}
use Rattle.zarrs_plugin.specs.Making.{Unmade, IsUnmade}
use Rattle.zarrs_plugin.specs.declared.error.PluginKind.TheVariants as kinds
use Rattle.zarrs_plugin.specs.declared.error.PluginCreateError.{PluginCreateError}
use Rattle.zarrs_plugin.specs.declared.error.PluginCreateError.TheVariants.{Unsupported, Config, Other, OutOfMemory}
use Rattle.zarrs_metadata_parts.specs.Making.{or_config}
use Rattle.zarr_basics.specs.GridForms.{ChunkGrid, regular}
use Rattle.zarr_array_open.specs.Opening.{OpenRefusal, plugin_create, or_refused}
use Rattle.zarr_array_open.specs.OpenError.{open_refusal_of, open_unmade_as}
use Rattle.zarr_array_open.specs.Parts.{StopsBy}
use Rattle.zarr_array_open.specs.ShardDocument.{grid_lengths_of}

-- the grid that is made has the chunk shape, and its form is of that alone
abbrev grid_is : ChunkGrid → Result ChunkGrid Unmade
grid_is grid = Ok grid

same_grid : (a b : ChunkGrid) → grid_is a ≡ grid_is b → a ≡ b
same_grid a b e = cc

abbrev shape_is : List ℕ → Result (List ℕ) OpenRefusal
shape_is dims = Ok dims

pub shape_made : (o : Option (List ℕ)) (grid : ChunkGrid) → or_config (option_map regular o) ≡ Ok grid →
    or_refused plugin_create o ≡ Ok (grid_lengths_of grid)
shape_made None grid is = absurd cc
shape_made (Some dims) grid is = ap (λ g. shape_is (grid_lengths_of g)) (same_grid (regular dims) grid is)

pub form_made : (o : Option (List ℕ)) (grid : ChunkGrid) → or_config (option_map regular o) ≡ Ok grid →
    grid ≡ regular (grid_lengths_of grid)
form_made None grid is = absurd cc
form_made (Some dims) grid is = let same = same_grid (regular dims) grid is in rw (← same) refl

pub not_made : (o : Option (List ℕ)) (e : PluginCreateError) → IsUnmade kinds.ChunkGrid e
    (or_config (option_map regular o)) → StopsBy (open_refusal_of (open_unmade_as e)) (or_refused plugin_create o)
not_made None (Unsupported error) is = absurd is
not_made None Config is = refl
not_made None Other is = absurd is
not_made None OutOfMemory is = tt
not_made (Some dims) (Unsupported error) is = absurd is
not_made (Some dims) Config is = absurd is
not_made (Some dims) Other is = absurd is
not_made (Some dims) OutOfMemory is = tt

pub ruleset of_regular = (shape_made, form_made, not_made)
