-- What the types of the code are in the model.
use Rattle.std.specs.Prelude.{ℕ, List, map, Option, option_map, unwrap_or, Vec}
use Rattle.std.specs.Int.NonZero.{non_zero_u64_get}
use Rattle.std.specs.declared.num.NonZeroU64.{NonZeroU64}
use Rattle.zarr_model.specs.Element.{null, fill_element, kind_of}
use Rattle.zarr_model.specs.Codec.{Level, Options}
use Rattle.zarrs_data_type_bytes.specs.FillValue.{fill_bytes}
use Rattle.zarrs_data_type_bytes.specs.declared.fill_value.FillValue.{FillValue}
use Rattle.zarrs_data_type.specs.DataType.{type_of}
use Rattle.zarrs_data_type.specs.declared.data_type.DataType.{DataType}
use Rattle.zarrs_storage.specs.declared.byte_range.ByteRange.{ByteRange}
use Rattle.zarrs_codec_error.specs.declared.options.CodecOptions.{CodecOptions}

-- the lengths of a chunk
abbrev pub lengths : List NonZeroU64 → List ℕ
lengths shape = map non_zero_u64_get shape

-- the level of a shape, a data type and a fill value, which is null where its bytes denote no
-- element
abbrev pub level_of : List NonZeroU64 → DataType → FillValue → Level
level_of shape data_type fill = record {
  shape = lengths shape;
  data_type = type_of data_type;
  fill = unwrap_or (fill_element (kind_of (type_of data_type)) (fill_bytes fill)) null;
}

-- the options that decoding and storing depend on
abbrev pub options_of : CodecOptions → Options
options_of options = record {
  store_empty_chunks = options.store_empty_chunks;
  validate_checksums = options.validate_checksums;
}

-- the ranges of an answer, if there are some
abbrev pub asked_ranges : {Z : Type 0} → Option (Vec ByteRange Z) → Option (List ByteRange)
asked_ranges ranges = option_map (λ v. v.items) ranges
