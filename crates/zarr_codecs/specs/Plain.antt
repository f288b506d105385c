-- Array-to-bytes codecs as plain data: what each means, serves, takes, refuses and is written as.
use Rattle.std.specs.Prelude.{◌≡◌, ℕ, ◌+◌, ◌*◌, ◌<◌, ◌^◌, if◌then◌else◌, Bool, true, false, nat_le, nat_lt, List}
use Rattle.std.specs.Prelude.{length, take, drop, codes, Option, Some, None, option_and_then}
use Rattle.serde_json.specs.Data.{Members, no_members, member}
use Rattle.zarrs_codec_traits.specs.Prelude.{Region, count_of, DataType, optional_type, ArrayBytes, optional_bytes}
use Rattle.zarrs_codec_traits.specs.Prelude.{is_mask, expected_optional_bytes, invalid_mask, TellsRangeOf}
use Rattle.zarr_model.specs.Codec.{ArrayToBytes, Level, bytes_codec, vlen_codec, optional_codec}
use Rattle.zarrs_metadata_parts.specs.MetadataV3.{configured}
use Rattle.zarr_model.specs.declared.endianness.Endianness.{Endianness}
use Rattle.zarrs_storage.specs.declared.byte_range.ByteRange.{ByteRange}
use Rattle.zarrs_data_type_bytes.specs.declared.codec_support.CodecName.TheVariants as names
use Rattle.zarrs_codec_array_bytes.specs.Refusals.{BytesAnswer, told_by, fine, refused, wrong_length}
use Rattle.zarrs_codec_error.specs.declared.error.CodecError.{CodecError}
use Rattle.zarrs_codec_error.specs.declared.error.CodecError.TheVariants as codec
use Rattle.zarrs_codec_error.specs.declared.bytes_representation.BytesRepresentation.{BytesRepresentation}
use Rattle.zarrs_codec_error.specs.declared.bytes_representation.BytesRepresentation.TheVariants.{FixedSize}
use Rattle.zarrs_codec_error.specs.declared.bytes_representation.BytesRepresentation.TheVariants.{BoundedSize}
use Rattle.zarrs_codec_error.specs.declared.bytes_representation.BytesRepresentation.TheVariants.{UnboundedSize}
use Rattle.zarrs_codec_error.specs.declared.capability.PartialDecoderCapability.{PartialDecoderCapability}
use Rattle.zarrs_codec_traits.specs.Errors.{Unserved, unsupported}
use Rattle.zarr_codecs_to_bytes.specs.BytesCodec.{stored_order, type_unserved, element_bytes, byte_order_members}
use Rattle.zarr_codecs_to_bytes.specs.Ranges.{run_ranges}
use Rattle.zarr_codecs_to_bytes.specs.VlenCodec as vlen

-- `bytes` with an order of the bytes of each component, `vlen-utf8` or `vlen-bytes`, or optional
-- elements over one of them
pub data Plain : Type 0 where
  plain_bytes : Option Endianness → Plain
  plain_vlen : Bool → Plain
  plain_optional : Plain → Plain

-- the codec that decodes
abbrev pub codec_of : Plain → ArrayToBytes
codec_of (plain_bytes order) = bytes_codec (stored_order order)
codec_of (plain_vlen text) = vlen_codec
codec_of (plain_optional inner) = optional_codec (codec_of inner)

-- the type inside an optional one, and any other type itself
abbrev pub held_type : DataType → DataType
held_type (optional_type inner) = inner
held_type data_type = data_type

-- why a type is not served; of an optional type the innermost codec says it first
abbrev pub unserved_by : Plain → DataType → Option Unserved
unserved_by (plain_bytes order) data_type = type_unserved order data_type
unserved_by (plain_vlen text) data_type = vlen.vlen_type_unserved text data_type
unserved_by (plain_optional inner) (optional_type held) = unserved_by inner held
unserved_by (plain_optional inner) _ = Some (unsupported names.Optional)

-- why a call with this type, or with none, is refused
abbrev pub plain_unserved : Plain → Option DataType → Option Unserved
plain_unserved plain data_type = option_and_then (unserved_by plain) data_type

-- which numbers of elements are encoded where all elements are short
abbrev pub takes_by : Plain → ℕ → Type 0
takes_by (plain_bytes order) number = Unit {0}
takes_by (plain_vlen text) number = number < 2 ^ 32
takes_by (plain_optional inner) number = takes_by inner number

-- whether the number of elements and the length of each are stored, in 4 bytes each
abbrev pub stores_lengths : Plain → Bool
stores_lengths (plain_bytes order) = false
stores_lengths (plain_vlen text) = true
stores_lengths (plain_optional inner) = stores_lengths inner

-- what is refused of valid array bytes
abbrev pub beyond_by : Plain → ℕ → ArrayBytes → BytesAnswer
beyond_by (plain_bytes order) number bytes = fine
beyond_by (plain_vlen text) number bytes = vlen.vlen_beyond number bytes
beyond_by (plain_optional inner) number (optional_bytes under mask) = beyond_by inner number under
beyond_by (plain_optional inner) number _ = fine

-- which errors say that a value of optional elements does not decode: it is shorter than their
-- number, its mask is wrong, or what is behind the mask does not decode
abbrev pub says_optional : Bool → Bool → (CodecError → Type 0) → ℕ → ℕ → CodecError → Type 0
says_optional false valid inner len number e = told_by e ≡ wrong_length len number
says_optional true false inner len number e = e ≡ codec.InvalidMask
says_optional true true inner len number e = inner e

abbrev pub says_by : Plain → ℕ → DataType → List ℕ → CodecError → Type 0
says_by (plain_bytes order) number data_type value e =
    told_by e ≡ wrong_length (length value) (number * element_bytes data_type)
says_by (plain_vlen text) number data_type value e = e ≡ codec.InvalidVariableSizedArrayOffsets
says_by (plain_optional inner) number data_type value e =
    says_optional (nat_le number (length value)) (is_mask number (take number value))
    (says_by inner number (held_type data_type) (drop number value)) (length value) number e

-- the ranges of a value that hold a region of a shape: `bytes` asks for the runs of the region, and
-- the others need all of the value
abbrev pub request_by : Plain → List ℕ → DataType → Region → Option (List ByteRange)
request_by (plain_bytes order) shape data_type region =
    Some (run_ranges (element_bytes data_type) shape region)
request_by (plain_vlen text) shape data_type region = None
request_by (plain_optional inner) shape data_type region = None

-- which errors say that a region of a value is not there: where ranges are asked for, that of the
-- first that does not lie within the value, and else those of the value
abbrev pub asked_says : Option (List ByteRange) → (List ℕ → CodecError → Type 0) → List ℕ
    → CodecError → Type 0
asked_says None says value e = says value e
asked_says (Some ranges) says value e = TellsRangeOf (Some ranges) (Some value) e

abbrev pub part_says : Plain → Level → Region → List ℕ → CodecError → Type 0
part_says plain level region value e =
    asked_says (request_by plain level.shape level.data_type region)
    (says_by plain (count_of level.shape) level.data_type) value e

-- what is told of array bytes that are to be optional, before what is under their mask
abbrev pub mask_answer : ℕ → ArrayBytes → BytesAnswer
mask_answer number (optional_bytes under mask) =
    if is_mask number mask then fine else refused invalid_mask
mask_answer number _ = refused expected_optional_bytes

-- a mask byte for each element, before a value of one size
abbrev pub with_mask : ℕ → BytesRepresentation → BytesRepresentation
with_mask number (FixedSize n) =
    if nat_lt (n + number) (2 ^ 64) then FixedSize (n + number) else UnboundedSize
with_mask number (BoundedSize n) = UnboundedSize
with_mask number UnboundedSize = UnboundedSize

-- how many bytes so many elements of a type have, encoded
abbrev pub size_by : Plain → ℕ → DataType → BytesRepresentation
size_by (plain_bytes order) number data_type = FixedSize (number * element_bytes data_type)
size_by (plain_vlen text) number data_type = UnboundedSize
size_by (plain_optional inner) number data_type =
    with_mask number (size_by inner number (held_type data_type))

-- whether it is `bytes`
abbrev pub is_bytes : Plain → Bool
is_bytes (plain_bytes order) = true
is_bytes (plain_vlen text) = false
is_bytes (plain_optional inner) = false

-- `bytes` alone reads parts of values
abbrev pub parts_by : Plain → PartialDecoderCapability
parts_by (plain_bytes order) = record { partial_read = true; partial_decode = true }
parts_by (plain_vlen text) = record { partial_read = false; partial_decode = false }
parts_by (plain_optional inner) = record { partial_read = false; partial_decode = false }

-- the names, and the configurations: optional elements have that of the inner codec with its name
abbrev pub name_by : Plain → List ℕ
name_by (plain_bytes order) = codes "bytes"
name_by (plain_vlen text) = vlen.vlen_name_of text
name_by (plain_optional inner) = codes "zarr_basics.optional"

abbrev pub members_by : Plain → Members
members_by (plain_bytes order) = byte_order_members order
members_by (plain_vlen text) = no_members
members_by (plain_optional inner) =
    member (codes "inner") (configured (name_by inner) (Some (members_by inner)) true) no_members
