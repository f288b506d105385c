-- The configuration of the codec of optional elements.
use Rattle.std.specs.Prelude.{◌≡◌, codes, true, Option, Some}
use Rattle.serde_json.specs.Data.{Members}
use Rattle.zarrs_codec_traits.specs.Prelude.{◌>>=◌, only_member}
use Rattle.zarrs_metadata_parts.specs.MetadataV3.{Extension, extension_of, normal_form}
use Rattle.zarr_codecs.specs.Plain.{Plain, plain_optional, name_by, members_by}

-- exactly `inner`, a named extension
unfoldable pub inner_in : Option Members → Option Extension
inner_in configuration = do
  ms ← configuration
  value ← only_member (codes "inner") ms
  extension_of value

-- a codec as a named extension
abbrev pub extension_by : Plain → Extension
extension_by plain = record {
  name = name_by plain;
  configuration = Some (members_by plain);
  must_understand = true;
}

-- the codec inside is read as it was written
abbrev pub InnerReadsBack : Type 0
InnerReadsBack = (plain : Plain)
    → inner_in (Some (members_by (plain_optional plain))) ≡ Some (normal_form (extension_by plain))
