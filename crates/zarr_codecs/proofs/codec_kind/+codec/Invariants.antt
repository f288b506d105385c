use Rattle.std.proofs.Common.{option_map, ◌+◌, ◌*◌}
use Rattle.zarrs_metadata_parts.specs.MetadataV3.{extension_seen}
use Rattle.zarrs_metadata_values.specs.Configuration.{configuration_seen}
use Rattle.zarr_codecs.specs.CodecForm.{nesting}
use Rattle.zarr_codecs.proofs.codec_kind.+codec.Given as goal

abbrev pub decreases-codec_by : goal.decreases-codec_by
decreases-codec_by l = 3 * nesting (option_map (λ c. configuration_seen c.now) l.configuration) + 1

abbrev pub decreases-codec_by_name : goal.decreases-codec_by_name
decreases-codec_by_name l = 3 * nesting (extension_seen l.metadata.now).configuration + 2

abbrev pub decreases-optional_by : goal.decreases-optional_by
decreases-optional_by l = 3 * nesting (option_map (λ c. configuration_seen c.now) l.configuration)
