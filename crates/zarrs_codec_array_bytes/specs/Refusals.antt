-- Why a call on array bytes is refused.
use Rattle.std.specs.Prelude.{◌≡◌, ℕ, ◌*◌, ◌+◌, ◌-◌, ◌^◌, ◌==◌, ◌⊎◌, min, Bool, true, false, not, length, Option, Some}
use Rattle.std.specs.Prelude.{None, Result, Ok, Err}
use Rattle.zarr_model.specs.Element.{Kind, fixed, variable, optional, fixed_size}
use Rattle.zarr_model.specs.ArrayBytes.{ArrayBytes, fixed_bytes, variable_bytes, optional_bytes}
use Rattle.zarr_model.specs.Command as model
use Rattle.zarrs_array_subset.specs.declared.error.IndexerError.{IndexerError}
use Rattle.zarrs_array_subset.specs.declared.error.IndexerError.TheVariants as indexer
use Rattle.zarrs_codec_slices.specs.Picking.{size_in}
use Rattle.zarrs_codec_array_bytes.specs.Levels.{inner_length}
use Rattle.zarrs_codec_error.specs.declared.error.CodecError.{CodecError}
use Rattle.zarrs_codec_error.specs.declared.error.CodecError.TheVariants as codec

-- what an answer says: nothing against the bytes, a refusal of them, their length and the expected
-- one, an indexer that does not fit, a fill value of another size, want of memory, or what no call
-- here says
pub data BytesAnswer : Type 0 where
  fine : BytesAnswer
  refused : model.Refusal → BytesAnswer
  wrong_length : ℕ → ℕ → BytesAnswer
  unfit : BytesAnswer
  other_fill : BytesAnswer
  no_memory : BytesAnswer
  odd : BytesAnswer

abbrev pub told_by : CodecError → BytesAnswer
told_by (codec.ExpectedFixedLengthBytes e) = refused model.expected_fixed_length_bytes
told_by (codec.ExpectedVariableLengthBytes e) = refused model.expected_variable_length_bytes
told_by (codec.ExpectedOptionalBytes e) = refused model.expected_optional_bytes
told_by (codec.UnexpectedChunkDecodedSize e) = wrong_length e.len e.expected_len
told_by codec.InvalidVariableSizedArrayOffsets = refused model.invalid_variable_sized_array_offsets
told_by codec.InvalidMask = refused model.invalid_mask
told_by (codec.IncompatibleIndexer e) = unfit
told_by (codec.DataTypeFillValueError e) = other_fill
told_by codec.OutOfMemory = no_memory
told_by _ = odd

abbrev pub told : {T : Type 0} → Result T CodecError → BytesAnswer
told (Ok v) = fine
told (Err e) = told_by e

abbrev pub refusal_answer : Option model.Refusal → BytesAnswer
refusal_answer None = fine
refusal_answer (Some why) = refused why

-- the same with the length of the data and the expected one, which is told as the greatest number
-- where it is greater
abbrev pub sized_answer : ℕ → ℕ → Option model.Refusal → BytesAnswer
sized_answer len expected None = fine
sized_answer len expected (Some model.unexpected_chunk_decoded_size) =
    wrong_length len (min expected (2 ^ 64 - 1))
sized_answer len expected (Some why) = refused why

-- the bytes are of another kind than their type, the outermost level first
abbrev pub kind_refusal : Kind → ArrayBytes → Option model.Refusal
kind_refusal (fixed n) (fixed_bytes value) = None
kind_refusal variable (variable_bytes value offsets) = None
kind_refusal (optional inner) (optional_bytes under mask) = kind_refusal inner under
kind_refusal (fixed n) _ = Some model.expected_fixed_length_bytes
kind_refusal variable _ = Some model.expected_variable_length_bytes
kind_refusal (optional inner) _ = Some model.expected_optional_bytes

-- the bytes are of other lengths than so many elements have, the outermost level first
abbrev pub lengths_refusal : ℕ → ℕ → ArrayBytes → Option model.Refusal
lengths_refusal size number (fixed_bytes value) =
    model.refused_if (not (length value == number * size)) model.unexpected_chunk_decoded_size
lengths_refusal size number (variable_bytes value offsets) =
    model.refused_if (not (length offsets == number + 1))
    model.invalid_variable_sized_array_offsets
lengths_refusal size number (optional_bytes under mask) =
    model.or_then (model.refused_if (not (length mask == number)) model.invalid_mask)
    (lengths_refusal size number under)

-- what is said of the bytes as so many elements of a kind, and of their lengths alone
abbrev pub validity : Kind → ℕ → ArrayBytes → BytesAnswer
validity kind number value =
    sized_answer (inner_length value) (number * size_in (fixed_size kind))
    (model.bytes_refusal kind number value)

abbrev pub lengths_answer : ℕ → ℕ → ArrayBytes → BytesAnswer
lengths_answer size number value =
    sized_answer (inner_length value) (number * size) (lengths_refusal size number value)

-- the first of two answers that is not fine
abbrev pub then_answer : BytesAnswer → BytesAnswer → BytesAnswer
then_answer fine next = next
then_answer first next = first

-- the innermost data are of one size
abbrev pub holds_fixed : ArrayBytes → Bool
holds_fixed (fixed_bytes value) = true
holds_fixed (variable_bytes value offsets) = false
holds_fixed (optional_bytes under mask) = holds_fixed under

-- what a call over an indexer answers first: the kinds, then the indexer, then the lengths
abbrev pub first_answer : Option model.Refusal → Bool → BytesAnswer → BytesAnswer
first_answer (Some why) fits next = refused why
first_answer None false next = unfit
first_answer None true next = next

-- what a call over a fill value answers, by whether the fill value has the size of the type
abbrev pub fill_answer : Bool → BytesAnswer
fill_answer true = fine
fill_answer false = other_fill

-- what an extraction answers
abbrev pub extract_answer : Kind → Bool → ℕ → ArrayBytes → BytesAnswer
extract_answer kind fits number value =
    first_answer (kind_refusal kind value) fits
    (lengths_answer (size_in (fixed_size kind)) number value)

-- the call answers so, or memory ran out
abbrev pub Answers : {T : Type 0} → BytesAnswer → Result T CodecError → Type 0
Answers wanted (Ok v) = wanted ≡ fine
Answers wanted (Err e) = (e ≡ codec.OutOfMemory) ⊎ (told_by e ≡ wanted)

-- the error of an indexer says something else than that memory ran out
abbrev pub is_not_memory : IndexerError → Bool
is_not_memory indexer.OutOfMemory = false
is_not_memory _ = true

-- where the error holds one of an indexer, it is one of these, and no want of memory
abbrev pub IfUnfit : (IndexerError → Type 0) → CodecError → Type 0
IfUnfit Refuses (codec.IncompatibleIndexer e) = Refuses e × (is_not_memory e ≡ true)
IfUnfit Refuses _ = Unit {0}
