-- What the codecs serve and take, by cases.
use Rattle.std.specs.Prelude.{◌≡◌, ◌<◌, ◌*◌, ◌^◌, nat_le, ℕ, Bool, true, false, List, length, take, drop, Some}
use Rattle.std.specs.Prelude.{None, IsSome, refl}
use Rattle.std.proofs.Common.{inl, ap}
use Rattle.zarrs_codec_traits.specs.Prelude.{Region, ends_within, DataType, ArrayBytes, fixed_bytes, variable_bytes}
use Rattle.zarrs_codec_traits.specs.Prelude.{optional_bytes, is_mask, Level, Options, decode_array_to_bytes}
use Rattle.zarrs_codec_traits.specs.Prelude.{has_long_element, invalid_mask, invalid_variable_sized_array_offsets}
use Rattle.zarrs_codec_traits.specs.Prelude.{slices_of, first_invalid, IsFormRefusal, IsNoFault, taken}
use Rattle.zarrs_storage.specs.declared.byte_range.ByteRange.{ByteRange}
use Rattle.zarrs_codec_error.specs.declared.error.CodecError.{CodecError}
use Rattle.zarrs_codec_error.specs.declared.error.CodecError.TheVariants as codec
use Rattle.zarrs_codec_array_bytes.specs.Refusals.{fine, refused, wrong_length, told_by}
use Rattle.zarrs_codec_traits.proofs.FaultLaws.{told_no_fault}
use Rattle.zarrs_codec_traits.proofs.TakenLaws.{nothing_asked}
use Rattle.zarr_codecs_to_bytes.specs.BytesCodec.{stored_order, element_bytes}
use Rattle.zarr_codecs_to_bytes.specs.Asking.{runs_asked}
use Rattle.zarr_codecs_to_bytes.proofs.FittedLaws.{runs_of_some}
use Rattle.zarr_codecs_to_bytes.specs.VlenCodec as vlen
use Rattle.zarr_codecs.specs.Plain.{Plain, plain_bytes, plain_vlen, plain_optional, codec_of, unserved_by}
use Rattle.zarr_codecs.specs.Plain.{plain_unserved, held_type, takes_by, beyond_by, says_optional, says_by, request_by}

-- a type that is served is so by a call that takes only some of a level
pub plain_serves : (plain : Plain) (data_type : DataType) (with_type : Bool)
    → plain_unserved plain (Some data_type) ≡ None
    → plain_unserved plain (taken with_type data_type) ≡ None
plain_serves plain data_type true served = served
plain_serves plain data_type false served = refl

-- nothing is refused where the number of elements is taken and all are short
pub plain_taken : (plain : Plain) (number : ℕ) (bytes : ArrayBytes) → takes_by plain number
    → has_long_element bytes ≡ false → beyond_by plain number bytes ≡ fine
plain_taken (plain_bytes order) number bytes few short = refl
plain_taken (plain_vlen text) number bytes few short = vlen.few_taken number bytes few short
plain_taken (plain_optional inner) number (fixed_bytes value) few short = refl
plain_taken (plain_optional inner) number (variable_bytes value offsets) few short = refl
plain_taken (plain_optional inner) number (optional_bytes under mask) few short =
    plain_taken inner number under few short

-- fewer than 2 ^ 32 are taken
pub plain_takes_few : (plain : Plain) (number : ℕ) → number < 2 ^ 32 → takes_by plain number
plain_takes_few (plain_bytes order) number few = tt
plain_takes_few (plain_vlen text) number few = few
plain_takes_few (plain_optional inner) number few = plain_takes_few inner number few

-- what is refused is the form of elements of any length
pub plain_refuses_form : (plain : Plain) (number : ℕ) (bytes : ArrayBytes)
    → IsFormRefusal (beyond_by plain number bytes)
plain_refuses_form (plain_bytes order) number bytes = inl refl
plain_refuses_form (plain_vlen text) number bytes = vlen.form_refused number bytes
plain_refuses_form (plain_optional inner) number (fixed_bytes value) = inl refl
plain_refuses_form (plain_optional inner) number (variable_bytes value offsets) = inl refl
plain_refuses_form (plain_optional inner) number (optional_bytes under mask) =
    plain_refuses_form inner number under

-- no error of a value is a fault of a store
pub optional_no_fault : (long valid : Bool) (inner : CodecError → Type 0) (len number : ℕ)
    (e : CodecError) → (inner e → IsNoFault e) → says_optional long valid inner len number e
    → IsNoFault e
optional_no_fault false valid inner len number e law told =
    told_no_fault e (wrong_length len number) refl told
optional_no_fault true false inner len number e law is =
    told_no_fault e (refused invalid_mask) refl (ap told_by is)
optional_no_fault true true inner len number e law told = law told

pub plain_no_fault : (plain : Plain) (number : ℕ) (data_type : DataType) (value : List ℕ)
    (e : CodecError) → says_by plain number data_type value e → IsNoFault e
plain_no_fault (plain_bytes order) number data_type value e told =
    told_no_fault e (wrong_length (length value) (number * element_bytes data_type)) refl told
plain_no_fault (plain_vlen text) number data_type value e is =
    told_no_fault e (refused invalid_variable_sized_array_offsets) refl (ap told_by is)
plain_no_fault (plain_optional inner) number data_type value e told =
    optional_no_fault (nat_le number (length value)) (is_mask number (take number value))
    (says_by inner number (held_type data_type) (drop number value)) (length value) number e
    (λ more. plain_no_fault inner number (held_type data_type) (drop number value) e more) told

-- where a range that is asked for does not lie within a value, the value does not decode
pub plain_asks : (plain : Plain) (under : Options) (level : Level) (region : Region)
    (value : List ℕ) (ranges : List ByteRange) → ends_within region level.shape ≡ true
    → request_by plain level.shape level.data_type region ≡ Some ranges
    → ¬ (first_invalid (length value) ranges ≡ None)
    → decode_array_to_bytes under (codec_of plain) level value ≡ None
plain_asks (plain_bytes order) under level region value ranges inside some invalid =
    runs_asked (stored_order order) under level region value ranges inside some invalid
plain_asks (plain_vlen text) under level region value ranges inside some invalid =
    absurd (nothing_asked some)
plain_asks (plain_optional inner) under level region value ranges inside some invalid =
    absurd (nothing_asked some)

-- a value that holds the ranges asked for has the same bytes there as some value that decodes
pub plain_alike : (plain : Plain) (under : Options) (level : Level) (region : Region)
    (value : List ℕ) (ranges : List ByteRange) → ends_within region level.shape ≡ true
    → unserved_by plain level.data_type ≡ None
    → request_by plain level.shape level.data_type region ≡ Some ranges
    → first_invalid (length value) ranges ≡ None
    → (other : List ℕ) × (slices_of ranges other ≡ slices_of ranges value)
    × IsSome (decode_array_to_bytes under (codec_of plain) level other)
plain_alike (plain_bytes order) under level region value ranges inside served some valid =
    runs_of_some order under level region value ranges inside served some valid
plain_alike (plain_vlen text) under level region value ranges inside served some valid =
    absurd (nothing_asked some)
plain_alike (plain_optional inner) under level region value ranges inside served some valid =
    absurd (nothing_asked some)
