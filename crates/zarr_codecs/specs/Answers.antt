-- What calls of an array-to-bytes codec answer.
use Rattle.std.specs.Prelude.{◌≡◌, ◌⊎◌, ◌≤◌, ℕ, ◌&&◌, true, false, nat_le, List, length, take, drop, Option, None, Some}
use Rattle.std.specs.Prelude.{option_map, Result, IfOk, MatchResult, Vec}
use Rattle.zarrs_codec_traits.specs.Prelude.{count_of, kind_of, ArrayBytes, is_mask, Level, Options}
use Rattle.zarrs_codec_traits.specs.Prelude.{decode_array_to_bytes, has_long_element, raw_of, validity, then_answer}
use Rattle.zarrs_codec_traits.specs.Prelude.{Answers, Unserved, unserved_error, RefusesBy, IsDecodeError, list_at}
use Rattle.zarrs_codec_traits.specs.Prelude.{Gives}
use Rattle.zarrs_codec_array_bytes.specs.declared.array_bytes.ArrayBytes as code
use Rattle.zarrs_codec_error.specs.declared.error.CodecError.{CodecError}
use Rattle.zarrs_codec_error.specs.declared.error.CodecError.TheVariants as codec
use Rattle.zarr_codecs.specs.Plain.{Plain, codec_of, unserved_by, beyond_by, says_by, says_optional}

-- an error refuses what is not served
abbrev pub IsUnserved : Option Unserved → CodecError → Type 0
IsUnserved why e = option_map unserved_error why ≡ Some e

-- what decoding answers
pub record Decodes (plain : Plain) (under : Options) (level : Level) (encoded : List ℕ)
    (result : Result code.ArrayBytes CodecError) : Type 0 where
  pub unserved : RefusesBy (unserved_by plain level.data_type) result
  pub value : unserved_by plain level.data_type ≡ None → MatchResult result
      (λ v. Gives (list_at level (raw_of v))
      (decode_array_to_bytes under (codec_of plain) level encoded))
      (IsDecodeError (decode_array_to_bytes under (codec_of plain) level encoded)
      (says_by plain (count_of level.shape) level.data_type encoded))
  pub short : IfOk result (λ v. has_long_element (raw_of v) ≡ false)

-- what encoding answers
pub record Encodes {Z : Type 0} (plain : Plain) (level : Level) (bytes : ArrayBytes)
    (result : Result (Vec ℕ Z) CodecError) : Type 0 where
  pub unserved : RefusesBy (unserved_by plain level.data_type) result
  pub exact : unserved_by plain level.data_type ≡ None
      → Answers (then_answer (validity (kind_of level.data_type) (count_of level.shape) bytes)
      (beyond_by plain (count_of level.shape) bytes)) result
  pub value : unserved_by plain level.data_type ≡ None → IfOk result (λ v. (under : Options)
      → decode_array_to_bytes under (codec_of plain) level v.items ≡ list_at level bytes)

-- a value with a mask of so many elements before it
pub record IsSplit (number : ℕ) (value mask rest : List ℕ) : Type 0 where
  pub long : number ≤ length value
  pub front : mask ≡ take number value
  pub back : rest ≡ drop number value
  pub valid : is_mask number mask ≡ true

-- there is no mask of so many elements, as an error says, or memory ran out
abbrev pub IsUnsplit : ℕ → List ℕ → CodecError → Type 0
IsUnsplit number value e = (e ≡ codec.OutOfMemory)
    ⊎ (((nat_le number (length value) && is_mask number (take number value)) ≡ false)
    × says_optional (nat_le number (length value)) (is_mask number (take number value))
    (λ _. ⊥) (length value) number e)
