-- The metadata of a codec, of either version.
use Rattle.std.specs.Prelude.{ℕ, List, Option, Some}
use Rattle.serde_json.specs.Data.{Members}
use Rattle.zarrs_metadata_parts.specs.MetadataV3.{Extension, extension_seen}
use Rattle.zarrs_metadata_parts.specs.MetadataV2.{CodecV2, codec_v2_seen}
use Rattle.zarrs_codec_traits.specs.declared.codec_metadata.CodecMetadata.{CodecMetadata}
use Rattle.zarrs_codec_traits.specs.declared.codec_metadata.CodecMetadata.TheVariants as code

-- what either version says of a codec
pub data MetadataSeen : Type 0 where
  version_3 : Extension → MetadataSeen
  version_2 : CodecV2 → MetadataSeen

-- metadata in memory as that
abbrev pub metadata_seen : CodecMetadata → MetadataSeen
metadata_seen (code.V3 metadata) = version_3 (extension_seen metadata.now)
metadata_seen (code.V2 metadata) = version_2 (codec_v2_seen metadata.now)

-- the name, which is the id in version 2
abbrev pub name_of : MetadataSeen → List ℕ
name_of (version_3 extension) = extension.name
name_of (version_2 metadata) = metadata.id

-- the configuration, if there is one
abbrev pub configuration_of : MetadataSeen → Option Members
configuration_of (version_3 extension) = extension.configuration
configuration_of (version_2 metadata) = Some metadata.configuration

-- the same of metadata in memory
abbrev pub name_seen : CodecMetadata → List ℕ
name_seen metadata = name_of (metadata_seen metadata)

abbrev pub configuration_in : CodecMetadata → Option Members
configuration_in metadata = configuration_of (metadata_seen metadata)
