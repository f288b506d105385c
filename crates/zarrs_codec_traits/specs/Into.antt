-- What a value is decoded into.
use Rattle.std.specs.Prelude.{◌≡◌, ◌⊎◌, ℕ, zero, suc, ◌*◌, ◌==◌, Bool, true, false, List, ◌∷◌, length, Option, Some, None}
use Rattle.std.specs.Prelude.{Result, Ok, Err, IfOk}
use Rattle.zarr_model.specs.Region.{count, count_of}
use Rattle.zarr_model.specs.Element.{Element, Kind, fixed, variable, optional, kind_of}
use Rattle.zarr_model.specs.ArrayBytes.{ArrayBytes, meaning}
use Rattle.zarr_model.specs.Codec.{Level}
use Rattle.zarr_model.specs.Command.{expected_fixed_length_bytes, expected_optional_bytes}
use Rattle.zarrs_array_subset.specs.ArraySubset.{region}
use Rattle.zarrs_codec_array_bytes.specs.Refusals.{BytesAnswer, fine, refused, then_answer, Answers}
use Rattle.zarrs_codec_error.specs.declared.error.CodecError.{CodecError}
use Rattle.zarrs_codec_error.specs.declared.error.CodecError.TheVariants as codec
use Rattle.zarrs_codec_traits.specs.Words.{Gives}
use Rattle.zarrs_codec_array_bytes_parts.specs.Held.{held_by, IsTargetOf}
use Rattle.zarrs_codec_array_bytes_parts.specs.Targets.{ArePut, view_answer}
use Rattle.zarrs_codec_array_bytes_parts.specs.declared.array_bytes_fixed_disjoint_view.ArrayBytesFixedDisjointView.{
  ArrayBytesFixedDisjointView,
}

-- how many elements a view has
abbrev pub num_viewed : ArrayBytesFixedDisjointView → ℕ
num_viewed view = count (region view.part.subset)

-- elements of a kind have so many masks and then one size, tested from the outermost level on
abbrev pub kind_answer : Kind → ℕ → BytesAnswer
kind_answer variable num_masks = refused expected_fixed_length_bytes
kind_answer (fixed size) zero = fine
kind_answer (fixed size) (suc num_masks) = refused expected_optional_bytes
kind_answer (optional kind) zero = refused expected_fixed_length_bytes
kind_answer (optional kind) (suc num_masks) = kind_answer kind num_masks

-- so many of them are those of the views' boxes: the masks from the outermost on, then the data
abbrev pub views_answer : Kind → ℕ → List ArrayBytesFixedDisjointView
    → ArrayBytesFixedDisjointView → BytesAnswer
views_answer (optional kind) number (view ∷ views) inner =
    then_answer (view_answer number view) (views_answer kind number views inner)
views_answer (fixed size) number views inner = view_answer (number * size) inner
views_answer _ number views inner = fine

-- what a target answers to so many elements of a kind
abbrev pub into_answer : Kind → ℕ → List ArrayBytesFixedDisjointView → ArrayBytesFixedDisjointView
    → BytesAnswer
into_answer kind number views inner =
    then_answer (kind_answer kind (length views)) (views_answer kind number views inner)

-- another number of elements is refused with both
abbrev pub RefusesCount : {T : Type 0} → Bool → ℕ → ℕ → Result T CodecError → Type 0
RefusesCount true num expected result = Unit {0}
RefusesCount false num expected (Ok v) = ⊥
RefusesCount false num expected (Err e) = (e ≡ codec.OutOfMemory)
    ⊎ (e ≡ codec.InvalidNumberOfElements (record { num = num; expected = expected }))

-- a value that does not decode is refused so, and else the target answers
abbrev pub DecodesInto : {A T : Type 0} → Option A → (CodecError → Type 0) → BytesAnswer
    → Result T CodecError → Type 0
DecodesInto None says told (Ok v) = ⊥
DecodesInto None says told (Err e) = (e ≡ codec.OutOfMemory) ⊎ says e
DecodesInto (Some list) says told result = Answers told result

-- array bytes that mean a list of so many elements of a kind were put into a target's views, each
-- into its view's box, and nothing else of the views' bytes changed
pub record IsPut (kind : Kind) (number : ℕ) (wanted : Option (List Element))
    (olds news : List ArrayBytesFixedDisjointView) (from to : ArrayBytesFixedDisjointView)
    : Type 0 where
  pub bytes : ArrayBytes
  pub means : Gives (meaning kind number bytes) wanted
  pub put : ArePut bytes olds news from to

-- what is refused where a value of a level is decoded into views
pub record RefusesViews {T : Type 0} (level : Level) (wanted : Option (List Element))
    (says : CodecError → Type 0) (masks : List ArrayBytesFixedDisjointView)
    (inner : ArrayBytesFixedDisjointView) (result : Result T CodecError) : Type 0 where
  -- another number of elements, then a value that does not decode, then what the views answer
  pub counted : RefusesCount (num_viewed inner == count_of level.shape) (num_viewed inner)
      (count_of level.shape) result
  pub exact : (num_viewed inner == count_of level.shape) ≡ true → DecodesInto wanted says
      (into_answer (kind_of level.data_type) (count_of level.shape) masks inner) result

-- what the views hold then: the elements that the value decodes to, where each belongs
pub record FillsViews {T : Type 0} (level : Level) (wanted : Option (List Element))
    (olds news : List ArrayBytesFixedDisjointView) (from to : ArrayBytesFixedDisjointView)
    (result : Result T CodecError) : Type 0 where
  -- as a list, where the target is one for a list of the level
  pub put : IsTargetOf (kind_of level.data_type) (count_of level.shape) olds from
      → IfOk result (λ _. wanted ≡ Some (held_by news to))
  -- and in bytes: those that were put, and those that are as before
  pub written : IfOk result (λ _. IsPut (kind_of level.data_type) (count_of level.shape) wanted
      olds news from to)
