-- The order of a codec.
use Rattle.std.specs.Prelude.{ℕ, List}
use Rattle.zarr_codecs_array_to_array.specs.declared.transpose_codec.TransposeCodec.{TransposeCodec}

abbrev pub order_of : TransposeCodec → List ℕ
order_of codec = codec.order.items
