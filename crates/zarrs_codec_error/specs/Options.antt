-- Options of codecs.
use Rattle.std.specs.Prelude.{true, false}
use Rattle.zarrs_codec_error.specs.declared.options.CodecOptions.{CodecOptions}
use Rattle.zarrs_codec_error.specs.declared.options.CodecMetadataOptions.{CodecMetadataOptions}

-- the options of a call that sets none
abbrev pub default_options : CodecOptions
default_options = record {
  validate_checksums = true;
  store_empty_chunks = false;
  concurrent_target = 1;
  chunk_concurrent_minimum = 4;
  experimental_partial_encoding = false;
}

-- the options of metadata where none is set
abbrev pub default_metadata_options : CodecMetadataOptions
default_metadata_options = record { codec_store_metadata_if_encode_only = true }
