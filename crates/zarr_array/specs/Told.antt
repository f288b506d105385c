-- Which errors tell that the value of a plain array's chunk does not decode.
use Rattle.std.specs.Prelude.{ℕ, List, [], ◌∷◌, map, Option, Some, None}
use Rattle.zarr_model.specs.Prelude.{Region, count_of, Level, Options, Shown, decode_bytes, level_under, box_under}
use Rattle.zarrs_codec_error.specs.declared.error.CodecError.{CodecError}
use Rattle.zarr_codec_chain.specs.Values.{said_at}
use Rattle.zarr_codecs.specs.Plain.{Plain, says_by, part_says}
use Rattle.zarr_array_open.specs.kinds.array_to_array.ArrayToArray.{ArrayToArray, array_codec_of}
use Rattle.zarr_codecs.specs.BytesToBytes.{BytesToBytes, byte_codec_of, byte_says_by}
use Rattle.zarr_array_open.specs.Document.{ArrayDocument, describe}
use Rattle.zarr_array_open.specs.ChunkLevels.{chunk_level}
use Rattle.zarr_array.specs.Access.{Says}
use Rattle.zarr_array.specs.Tells.{TellsOfSome}
use Rattle.zarr_array.specs.declared.command_error.SessionErrorKind.{SessionErrorKind}

-- which errors tell that some bytes-to-bytes codecs give nothing for a value: those of the first
-- one, from the last, that gives nothing
abbrev pub byte_codecs_say : Options → List BytesToBytes → List ℕ → CodecError → Type 0
byte_codecs_say options [] value e = ⊥
byte_codecs_say options (c ∷ codecs) value e =
    said_at (decode_bytes (map (byte_codec_of options) codecs) value)
    (byte_codecs_say options codecs value) (byte_says_by c) e

-- the level below some array-to-array codecs
abbrev pub level_below_all : List ArrayToArray → Level → Level
level_below_all codecs level = level_under (map array_codec_of codecs) level

-- which errors tell that an array-to-bytes codec gives nothing for bytes: of a part of a chunk, at
-- the box below some array-to-array codecs, those of the part
abbrev pub to_bytes_says : Plain → List ArrayToArray → Level → Option Region → List ℕ → CodecError
    → Type 0
to_bytes_says codec above level None value e = let below = level_below_all above level in
    says_by codec (count_of below.shape) below.data_type value e
to_bytes_says codec above level (Some box) value e = part_says codec (level_below_all above level)
    (box_under (map array_codec_of above) level box) value e

-- the same of a document's chain for the value of a chunk: those of the first codec, in the order
-- of decoding, that gives nothing
abbrev pub value_says : ArrayDocument → Says
value_says document options chunk asked value e =
    said_at (decode_bytes (map (byte_codec_of options) document.byte_codecs) value)
    (byte_codecs_say options document.byte_codecs value)
    (to_bytes_says document.to_bytes document.array_codecs (chunk_level (describe document) chunk)
    asked) e

-- an error of a command tells why the value of a chunk does not decode, of a plain array
abbrev pub TellsWhy : Option Region → ArrayDocument → Options → Shown → SessionErrorKind → Type 0
TellsWhy region document options now kind =
    TellsOfSome region (describe document) (value_says document) options now kind
