-- What an array's codecs mean, what they do not serve, and which errors tell that they give
-- nothing.
use Rattle.std.specs.Prelude.{ℕ, List}
use Rattle.zarr_codec_chain.specs.Prelude.{count_of, Level, ArrayCodec, Options, decode_array_to_bytes, Listing}
use Rattle.zarr_codec_chain.specs.Prelude.{Opening, Serving}
use Rattle.zarrs_codec_error.specs.declared.error.CodecError.{CodecError}
use Rattle.zarr_codecs.specs.Plain.{codec_of, plain_unserved, says_by}
use Rattle.zarr_codecs.specs.Views.{plain_of}
use Rattle.zarr_codecs.specs.declared.codecs.BasicArrayToBytes.{BasicArrayToBytes}
use Rattle.zarr_basics.specs.kinds.array_to_array.ArrayToArray.{array_codec_of, array_unserved_by, fill_below_by}
use Rattle.zarr_basics.specs.kinds.array_to_array.Views.{array_form}
use Rattle.zarr_basics.specs.kinds.array_to_array.declared.array_to_array.BasicArrayToArray.{BasicArrayToArray}
use Rattle.zarr_codecs.specs.BytesToBytes.{byte_codec_of, byte_says_by, byte_form}
use Rattle.zarr_codecs.specs.declared.bytes_to_bytes.BasicBytesToBytes.{BasicBytesToBytes}
use Rattle.zarr_codec_chain.specs.Building.{Filling}

-- of array-to-array codecs
abbrev pub array_meaning : BasicArrayToArray → ArrayCodec
array_meaning codec = array_codec_of (array_form codec)

abbrev pub array_unserved : Serving BasicArrayToArray
array_unserved codec dims type fill = array_unserved_by (array_form codec) dims type

abbrev pub array_fill_below : Filling BasicArrayToArray
array_fill_below codec type fill = fill_below_by (array_form codec) fill

-- of array-to-bytes codecs
abbrev pub list_meaning : Listing BasicArrayToBytes
list_meaning codec under level value =
    decode_array_to_bytes under (codec_of (plain_of codec)) level value

abbrev pub list_unserved : Serving BasicArrayToBytes
list_unserved codec dims type fill = plain_unserved (plain_of codec) type

abbrev pub list_says : BasicArrayToBytes → Options → Level → List ℕ → CodecError → Type 0
list_says codec under level value e =
    says_by (plain_of codec) (count_of level.shape) level.data_type value e

-- of bytes-to-bytes codecs
abbrev pub bytes_meaning : Opening BasicBytesToBytes
bytes_meaning codec under value = byte_codec_of under (byte_form codec) value

abbrev pub bytes_codec_says : BasicBytesToBytes → Options → List ℕ → CodecError → Type 0
bytes_codec_says codec under value e = byte_says_by (byte_form codec) value e
