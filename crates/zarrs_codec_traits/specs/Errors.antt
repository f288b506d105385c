-- Why codecs give no answer.
use Rattle.std.specs.Prelude.{◌≡◌, ◌⊎◌, ℕ, Bool, true, false, List, Option, Some, None, Result, Ok, Err}
use Rattle.zarr_model.specs.Element.{DataType}
use Rattle.zarr_model.specs.Codec.{Level}
use Rattle.zarr_model.specs.Command.{expected_fixed_length_bytes, invalid_variable_sized_array_offsets}
use Rattle.zarrs_storage.specs.declared.store.StorageError.{StorageError}
use Rattle.zarrs_data_type_bytes.specs.declared.codec_support.CodecName.{CodecName}
use Rattle.zarrs_data_type_bytes.specs.declared.codec_support.DataTypeCodecError.TheVariants as fault
use Rattle.zarrs_codec_array_bytes.specs.Refusals.{BytesAnswer, told_by, fine, refused, other_fill}
use Rattle.zarrs_codec_error.specs.declared.error.CodecError.{CodecError}
use Rattle.zarrs_codec_error.specs.declared.error.CodecError.TheVariants as codec

-- an error is no fault of a store
pub record IsNoFault (e : CodecError) : Type 0 where
  pub unlike : (fault : StorageError) → ¬ (e ≡ codec.StorageError fault)

-- why a codec refuses a shape, a data type and a fill value, whatever the elements: the codec of
-- this name does not serve them, or no order is given for components of several bytes
pub data Unserved : Type 0 where
  unsupported : CodecName → Unserved
  endianness_missing : Unserved

abbrev pub unserved_error : Unserved → CodecError
unserved_error (unsupported name) =
    codec.UnsupportedDataTypeCodec (fault.UnsupportedDataType name)
unserved_error endianness_missing = codec.EndiannessMissing

-- why a level with the bytes of its fill value is not served, if it is not
abbrev pub unserved_at : (Option (List ℕ) → Option DataType → Option (List ℕ) → Option Unserved)
    → Level → List ℕ → Option Unserved
unserved_at unserved level fill = unserved (Some level.shape) (Some level.data_type) (Some fill)

-- where there is a reason the call is refused by it, or memory ran out
abbrev pub RefusesBy : {T : Type 0} → Option Unserved → Result T CodecError → Type 0
RefusesBy None result = Unit {0}
RefusesBy (Some why) (Ok v) = ⊥
RefusesBy (Some why) (Err e) = (e ≡ codec.OutOfMemory) ⊎ (e ≡ unserved_error why)

-- the same of a call that takes no memory, which else gives such a value
abbrev pub Serves : {T : Type 0} → Option Unserved → (T → Type 0) → Result T CodecError → Type 0
Serves None is (Ok v) = is v
Serves None is (Err e) = ⊥
Serves (Some why) is (Ok v) = ⊥
Serves (Some why) is (Err e) = e ≡ unserved_error why

-- nothing decodes, and this error says so; or memory ran out
abbrev pub IsDecodeError : {A : Type 0} → Option A → (CodecError → Type 0) → CodecError → Type 0
IsDecodeError wanted says e = (e ≡ codec.OutOfMemory) ⊎ ((wanted ≡ None) × says e)

-- a fill value of another size than the type's is refused as such, and only what is encoded to
-- elements of no fixed size is refused else; or memory ran out
abbrev pub FillAnswers : {T : Type 0} → Bool → Result T CodecError → Type 0
FillAnswers true (Ok v) = Unit {0}
FillAnswers true (Err e) =
    (e ≡ codec.OutOfMemory) ⊎ (told_by e ≡ refused expected_fixed_length_bytes)
FillAnswers false (Ok v) = ⊥
FillAnswers false (Err e) = (e ≡ codec.OutOfMemory) ⊎ (told_by e ≡ other_fill)

-- a call is refused by what is told, or memory ran out
abbrev pub RefusesAs : {T : Type 0} → BytesAnswer → Result T CodecError → Type 0
RefusesAs fine result = Unit {0}
RefusesAs why (Ok v) = ⊥
RefusesAs why (Err e) = (e ≡ codec.OutOfMemory) ⊎ (told_by e ≡ why)

-- nothing is refused, or the form of variable-length elements is
abbrev pub IsFormRefusal : BytesAnswer → Type 0
IsFormRefusal told = (told ≡ fine) ⊎ (told ≡ refused invalid_variable_sized_array_offsets)
