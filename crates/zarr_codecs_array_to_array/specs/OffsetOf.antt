-- The offset of a codec.
use Rattle.std.specs.Prelude.{ℤ}
use Rattle.zarr_codecs_array_to_array.specs.Offset.{integer_in}
use Rattle.zarr_codecs_array_to_array.specs.declared.offset_codec.OffsetCodec.{OffsetCodec}

abbrev pub offset_of : OffsetCodec → ℤ
offset_of codec = integer_in codec.offset
