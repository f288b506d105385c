-- The codecs of the code as plain data.
use Rattle.zarr_codecs.specs.declared.codecs.BasicArrayToBytes.{BasicArrayToBytes, Bytes, Vlen, Optional'}
use Rattle.zarr_codecs.specs.declared.codecs.OptionalCodec.{OptionalCodec}
use Rattle.zarr_codecs.specs.Plain.{Plain, plain_bytes, plain_vlen, plain_optional}

abbrev pub plain_of : BasicArrayToBytes → Plain
plain_of (Bytes codec) = plain_bytes codec.endianness
plain_of (Vlen codec) = plain_vlen codec.text
plain_of (Optional' pointer inner) = plain_optional (plain_of inner)

abbrev pub optional_plain : OptionalCodec → Plain
optional_plain codec = plain_optional (plain_of codec.inner.value)
