-- What is written for an extension, read again.
use Rattle.std.proofs.Common.{◌≡◌, Bool, true, false, Some, None, refl}
use Rattle.serde_json.specs.Data.{no_members, member}
use Rattle.zarrs_metadata_parts.specs.MetadataV3.{Extension, extension_of, object_extension, extension_data, configured}
use Rattle.zarrs_metadata_parts.specs.MetadataV3.{normal_by, normal_form}

read_configured : (name : _) (configuration : _) (must_understand : Bool) →
    extension_of (configured name configuration must_understand) ≡ Some (normal_by name configuration must_understand)
unfolding extension_of object_extension
read_configured name None must_understand = refl
read_configured name (Some no_members) must_understand = refl
read_configured name (Some (member k d ms)) true = refl
read_configured name (Some (member k d ms)) false = refl

pub extension_reads_back : (e : Extension) → extension_of (extension_data e) ≡ Some (normal_form e)
extension_reads_back e = read_configured e.name e.configuration e.must_understand
