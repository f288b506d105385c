-- What the kinds of extensions make of a configuration.
use Rattle.std.specs.Prelude.{Option, option_map, Result}
use Rattle.serde_json.specs.Data.{Members}
use Rattle.zarr_model.specs.Prelude.{KeyEncoding, default_keys, v2_keys}
use Rattle.zarrs_plugin.specs.Making.{Makes}
use Rattle.zarrs_plugin.specs.declared.error.PluginCreateError.{PluginCreateError}
use Rattle.zarrs_plugin.specs.declared.error.PluginKind.TheVariants as kinds
pub use Rattle.zarr_basics.specs.GridMaking.{grid_form, over_shape, regular_created}
use Rattle.zarrs_metadata_parts.specs.Making.{or_config}
use Rattle.zarr_basics.specs.Configurations.{separator_in}
use Rattle.zarr_basics.specs.declared.registries.ChunkKeyKind.{ChunkKeyKind}
use Rattle.zarr_basics.specs.declared.registries.ChunkKeyKind.TheVariants.{Default, V2}

-- the configurations of each kind, with what they say
abbrev pub keys_form : ChunkKeyKind → Option Members → Option KeyEncoding
keys_form Default configuration = option_map default_keys (separator_in 47 configuration)
keys_form V2 configuration = option_map v2_keys (separator_in 46 configuration)

-- a key encoding was made as is expected, or refused so
abbrev pub MakesKeys : {X Y : Type 0} → (X → Y) → Result X PluginCreateError → Option Y → Type 0
MakesKeys seen result form = Makes kinds.ChunkKeyEncoding seen result (or_config form)
