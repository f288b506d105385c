-- What a codec with other options has in common with the codec.
use Rattle.std.specs.Prelude.{◌≡◌, ℕ, Bool, List, Option}
use Rattle.zarr_model.specs.Region.{Region}
use Rattle.zarr_model.specs.Element.{Element, DataType}
use Rattle.zarr_model.specs.ArrayBytes.{ArrayBytes}
use Rattle.zarr_model.specs.Codec.{Level, Options, ArrayCodec}
use Rattle.zarrs_storage.specs.declared.byte_range.ByteRange.{ByteRange}
use Rattle.zarrs_codec_error.specs.declared.error.CodecError.{CodecError}
use Rattle.zarrs_codec_error.specs.declared.bytes_representation.BytesRepresentation.{
  BytesRepresentation,
}
use Rattle.zarrs_codec_array_bytes.specs.Refusals.{BytesAnswer}
use Rattle.zarrs_codec_traits.specs.declared.codec_traits.CodecTraits.{Ghosts}

-- it is written as before, and the same parts are decoded and encoded alone
pub record TellsSame {C : Type 0} (of : Ghosts C) (old new : C) : Type 0 where
  pub written : of.written new ≡ of.written old
  pub decodes_parts : of.decodes_parts new ≡ of.decodes_parts old
  pub encodes_parts : of.encodes_parts new ≡ of.encodes_parts old

-- it turns elements into the same elements below
pub record IsSameToArray {C : Type 0} (meaning_of : C → ArrayCodec)
    (fill_of : C → DataType → List ℕ → List ℕ) (region_of : C → List ℕ → Region → Region)
    (shape_of : C → List ℕ → Option (List ℕ)) (old new : C) : Type 0 where
  pub meaning : meaning_of new ≡ meaning_of old
  pub fill : fill_of new ≡ fill_of old
  pub region : region_of new ≡ region_of old
  pub shape : shape_of new ≡ shape_of old

-- it decodes and refuses as before, asks for the same ranges and tells the same number of bytes
pub record IsSameToBytes {C : Type 0}
    (meaning_of : C → Options → Level → List ℕ → Option (List Element))
    (says_of : C → Options → Level → List ℕ → CodecError → Type 0)
    (beyond_of : C → Level → ArrayBytes → BytesAnswer) (takes_of : C → Level → Type 0)
    (request_of : C → List ℕ → DataType → Region → Option (List ByteRange))
    (representation_of : C → Level → BytesRepresentation) (compacts_of : C → Bool) (old new : C)
    : Type 0 where
  pub meaning : meaning_of new ≡ meaning_of old
  -- what tells why a value does not decode, told so before
  pub says : (under : Options) (level : Level) (value : List ℕ) (e : CodecError)
      → says_of new under level value e → says_of old under level value e
  -- what is refused of elements to be encoded
  pub beyond : beyond_of new ≡ beyond_of old
  -- where nothing was refused of short elements nothing is
  pub takes : (level : Level) → takes_of old level → takes_of new level
  pub request : request_of new ≡ request_of old
  pub representation : representation_of new ≡ representation_of old
  pub compacts : compacts_of new ≡ compacts_of old
