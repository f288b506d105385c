use Rattle.zarrs_plugin.specs.Registry.{registry_of}
use Rattle.zarrs_metadata_parts.specs.MetadataV3.{extension_seen}
use Rattle.zarrs_data_type.proofs.TypeLaws.{extension_is}
use Rattle.zarrs_data_type.proofs.data_type.DataType.from_metadata.Goals as goal

pub returns-in-V3-clause-positive : goal.returns-in-V3-clause-positive
returns-in-V3-clause-positive c =
    extension_is (registry_of c.args.registry.now) (extension_seen c.in-V3.metadata.now) c.type_by.result
    c.type_by.ensures
