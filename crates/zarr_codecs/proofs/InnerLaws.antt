-- The codec inside, written and read again.
use Rattle.std.proofs.Common.{◌≡◌, Some}
use Rattle.zarrs_metadata_parts.specs.MetadataV3.{normal_form}
use Rattle.zarrs_metadata_parts.proofs.ExtensionLemmas.{extension_reads_back}
use Rattle.zarr_codecs.specs.Plain.{Plain, plain_optional, members_by}
use Rattle.zarr_codecs.specs.Inner.{inner_in, extension_by}

pub inner_reads_back : (plain : Plain) →
    inner_in (Some (members_by (plain_optional plain))) ≡ Some (normal_form (extension_by plain))
unfolding inner_in
inner_reads_back plain = extension_reads_back (extension_by plain)
