-- What comes of a configuration that an extension is made of.
use Rattle.std.specs.Prelude.{Option, Some, None, Result, Ok, Err}
use Rattle.zarrs_metadata_values.specs.declared.error.MetadataError.{MetadataError}
use Rattle.zarrs_metadata_values.specs.declared.error.MetadataError.TheVariants as Read
use Rattle.zarrs_plugin.specs.Making.{Unmade, config}
use Rattle.zarrs_plugin.specs.declared.error.PluginCreateError.{PluginCreateError}
use Rattle.zarrs_plugin.specs.declared.error.PluginCreateError.TheVariants.{Config, OutOfMemory}

-- a configuration that is not of the form is refused as one
abbrev pub or_config : {Y : Type 0} → Option Y → Result Y Unmade
or_config None = Err config
or_config (Some y) = Ok y

-- the error of a configuration that is not read
abbrev pub unmade_as : MetadataError → PluginCreateError
unmade_as Read.InvalidJson = Config
unmade_as Read.FloatNumber = Config
unmade_as Read.InvalidMetadata = Config
unmade_as Read.OutOfMemory = OutOfMemory
