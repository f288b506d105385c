use Rattle.zarrs_metadata_values.proofs.FormLemmas.{given_again}
use Rattle.zarrs_metadata_parts.specs.MetadataV3.{extension_seen, extension_of}
use Rattle.zarrs_metadata_parts.proofs.ExtensionLemmas.{extension_reads_back}
use Rattle.zarrs_metadata_parts.proofs.laws.read_again.Goals as goal

pub returns : goal.returns
returns c = given_again extension_seen extension_of c.from_value.result _ _ _ c.from_value.ensures
    c.in_ok-value.ensures (extension_reads_back (extension_seen c.args.metadata.now))
