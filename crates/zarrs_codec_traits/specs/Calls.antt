-- What calls of codecs answer.
use Rattle.std.specs.Prelude.{◌≡◌, ℕ, List, [], ◌∷◌, length, Option, Some, None, IsSome, option_and_then, Result}
use Rattle.std.specs.Prelude.{IfOk, IfErr, MatchResult}
use Rattle.zarr_model.specs.Region.{Region, count_of, sizes}
use Rattle.zarr_model.specs.Element.{Element, kind_of}
use Rattle.zarr_model.specs.ArrayBytes.{ArrayBytes}
use Rattle.zarr_model.specs.Codec.{Level, ArrayCodec}
use Rattle.zarrs_storage.specs.declared.byte_range.ByteRange.{ByteRange}
use Rattle.zarrs_codec_error.specs.declared.error.CodecError.{CodecError}
use Rattle.zarrs_codec_error.specs.declared.error.CodecError.TheVariants as codec
use Rattle.zarrs_codec_array_bytes.specs.declared.array_bytes.ArrayBytes as code
use Rattle.zarrs_codec_array_bytes.specs.Raw.{raw_of}
use Rattle.zarrs_codec_array_bytes.specs.Refusals.{fine, validity, Answers}
use Rattle.zarrs_codec_traits.specs.Errors.{Unserved, RefusesBy, RefusesAs, IsDecodeError}
use Rattle.zarrs_codec_traits.specs.Parts.{ArePartsOf, request_answer}
use Rattle.zarrs_codec_traits.specs.Words.{list_at, at_box, select, Gives}

-- a call at a level is refused for the codec's reason where the level is not served, and else this
-- holds
pub record AtLevel {T : Type 0} (why : Option Unserved) (answer : Type 0)
    (result : Result T CodecError) : Type 0 where
  pub unserved : RefusesBy why result
  pub served : why ≡ None → answer

-- the elements of a region are decoded, out of the parts of a value that were asked for
pub record DecodesParts (asked : Option (List ByteRange)) (decode : List ℕ → Option (List Element))
    (says : List ℕ → CodecError → Type 0) (level : Level) (box : Region) (parts : List (List ℕ))
    (result : Result code.ArrayBytes CodecError) : Type 0 where
  -- a part of another length than its range is refused
  pub lengths : RefusesAs (request_answer asked parts) result
  -- of a value that decodes these are the elements of the region; or memory ran out
  pub value : (value : List ℕ) (xs : List Element) → ArePartsOf asked value parts
      → decode value ≡ Some xs
      → MatchResult result (λ v. list_at (at_box box level) (raw_of v)
      ≡ Some (select level.shape box xs)) (λ e. e ≡ codec.OutOfMemory)
  -- else the error tells why the value does not decode
  pub cause : (value : List ℕ) → ArePartsOf asked value parts → request_answer asked parts ≡ fine
      → IfErr result (IsDecodeError (decode value) (says value))
  -- in either case what is given is as many valid elements as the region has
  pub valid : IfOk result (λ v. IsSome (list_at (at_box box level) (raw_of v)))
  -- a value that was asked for whole decodes
  pub decodes : (value : List ℕ) → asked ≡ None → parts ≡ value ∷ []
      → IfOk result (λ _. IsSome (decode value))

-- elements are encoded to those of the level below that decode to them: refused exactly where they
-- are not valid, or for want of memory
pub record EncodesArray (by : ArrayCodec) (level : Level) (bytes : ArrayBytes)
    (result : Result code.ArrayBytes CodecError) : Type 0 where
  pub exact : Answers (validity (kind_of level.data_type) (count_of level.shape) bytes) result
  pub value : IfOk result (λ v. option_and_then (by.decode_list level)
      (list_at (by.level_below level) (raw_of v)) ≡ list_at level bytes)

-- elements of the level below are decoded: refused exactly where they are not valid, or for want of
-- memory
pub record DecodesArray (by : ArrayCodec) (level : Level) (bytes : ArrayBytes)
    (result : Result code.ArrayBytes CodecError) : Type 0 where
  pub exact : Answers (validity (kind_of (by.level_below level).data_type)
      (count_of (by.level_below level).shape) bytes) result
  pub value : (list : List Element) → list_at (by.level_below level) bytes ≡ Some list
      → IfOk result (λ v. Gives (list_at level (raw_of v)) (by.decode_list level list))

-- the elements of a region are decoded, out of those of the box below that it needs: refused exactly
-- where these are not valid, or for want of memory
pub record DecodesRegion (by : ArrayCodec) (level : Level) (box inner : Region)
    (bytes : ArrayBytes) (result : Result code.ArrayBytes CodecError) : Type 0 where
  pub exact : Answers (validity (kind_of (by.level_below level).data_type) (count_of (sizes inner))
      bytes) result
  -- of a list below that decodes, its box gives the region of what it decodes to
  pub value : (list xs : List Element) → length list ≡ count_of (by.level_below level).shape
      → by.decode_list level list ≡ Some xs
      → list_at (at_box inner (by.level_below level)) bytes
      ≡ Some (select (by.level_below level).shape inner list)
      → IfOk result (λ v. list_at (at_box box level) (raw_of v)
      ≡ Some (select level.shape box xs))
  pub valid : IfOk result (λ v. IsSome (list_at (at_box box level) (raw_of v)))
