-- Errors of configurations.
use Rattle.std.proofs.Common.{Option, option_map, sym, subst}
use Rattle.zarrs_metadata_values.specs.Reading.{Fails}
use Rattle.zarrs_metadata_values.specs.declared.error.MetadataError.{MetadataError}
use Rattle.zarrs_metadata_values.specs.declared.error.MetadataError.TheVariants as Read
use Rattle.zarrs_plugin.specs.Making.{IsUnmade}
use Rattle.zarrs_plugin.specs.declared.error.PluginCreateError.TheVariants.{Config}
use Rattle.zarrs_plugin.specs.declared.error.PluginKind.{PluginKind}
use Rattle.zarrs_metadata_parts.specs.Making.{or_config, unmade_as}

pub fails : {Y : Type 0} (kind : PluginKind) (error : MetadataError) (read : Option Y) → Fails error read →
    IsUnmade kind (unmade_as error) (or_config read)
fails kind Read.OutOfMemory read e = tt
fails kind Read.InvalidMetadata read e = subst (λ r. IsUnmade kind Config (or_config r)) (sym e) tt
fails kind Read.InvalidJson read e = absurd e
fails kind Read.FloatNumber read e = absurd e

pub fails_mapped : {Y Z : Type 0} (kind : PluginKind) (error : MetadataError) (read : Option Y) (f : Y → Z) →
    Fails error read → IsUnmade kind (unmade_as error) (or_config (option_map f read))
fails_mapped kind Read.OutOfMemory read f e = tt
fails_mapped kind Read.InvalidMetadata read f e =
    subst (λ r. IsUnmade kind Config (or_config (option_map f r))) (sym e) tt
fails_mapped kind Read.InvalidJson read f e = absurd e
fails_mapped kind Read.FloatNumber read f e = absurd e

pub ruleset of_configurations = (fails, fails_mapped)
