-- What calls on array bytes answer, by what the bytes mean.
use Rattle.std.proofs.Common.{◌≡◌, ℕ, ◌^◌, ◌<◌, List, length, replicate, false, true, Bool, Option, Some, None, Result}
use Rattle.std.proofs.Common.{Ok, Err, IfOk, sym, ap, ◌∙◌, refl}
use Rattle.std.specs.List.{AllByRecursion}
use Rattle.std.proofs.lemmas.List.{length-map}
use Rattle.zarr_model.specs.Region.{count_of, linear_index, whole, contains}
use Rattle.zarr_model.specs.Element.{Element, Kind, null, fixed_size, fill_element}
use Rattle.zarr_model.specs.ArrayBytes.{ArrayBytes, meaning}
use Rattle.zarr_model.specs.Command.{has_long_element}
use Rattle.zarr_model.specs.Command as model
use Rattle.zarrs_codec_error.specs.declared.error.CodecError.{CodecError}
use Rattle.zarrs_codec_slices.specs.Picking.{AllBelow, gathered, picked, size_in}
use Rattle.zarrs_codec_slices.proofs.GatherLaws.{extract_means}
use Rattle.zarrs_codec_slices.specs.Filling.{filled_with, innermost_fill}
use Rattle.zarrs_codec_slices.proofs.FilledLaws.{filled_means, filled_short}
use Rattle.zarrs_codec_slices.proofs.RowLaws.{indices_below}
use Rattle.zarrs_codec_array_bytes.specs.Selection.{linear}
use Rattle.zarrs_codec_array_bytes.specs.Refusals.{BytesAnswer, fine, Answers, first_answer, lengths_refusal}
use Rattle.zarrs_codec_array_bytes.specs.Refusals.{extract_answer}
use Rattle.zarrs_codec_array_bytes.proofs.CheckLaws.{still_short, below_twice, sized_fine}

-- an answer over an indexer that is fine
pub record IsFine (first : Option model.Refusal) (fits : Bool) (next : BytesAnswer) : Type 0 where
  pub kind : first ≡ None
  pub fit : fits ≡ true
  pub lengths : next ≡ fine

pub is_fine : (first : Option model.Refusal) (fits : Bool) (next : BytesAnswer) → first_answer first fits next ≡ fine →
    IsFine first fits next
is_fine (Some why) fits next e = cc
is_fine None false next e = cc
is_fine None true next e = record { kind = refl; fit = refl; lengths = e }

pub selected : {T : Type 0} (raw : T → ArrayBytes) (kind : Kind) (shape : List ℕ) (places : List (List ℕ))
    (fits : Bool) (old : ArrayBytes) (r : Result T CodecError) →
    (fits ≡ true → AllByRecursion (λ tuple. contains (whole shape) tuple ≡ true) places) →
    Answers (extract_answer kind fits (count_of shape) old) r →
    IfOk r (λ v. raw v ≡ gathered (size_in (fixed_size kind)) (count_of shape) (linear shape places) old old) →
    (xs : List Element) → meaning kind (count_of shape) old ≡ Some xs →
    IfOk r (λ v. meaning kind (length places) (raw v) ≡ Some (picked null (linear shape places) xs))
selected raw kind shape places fits old (Ok v) inside answers is xs e =
    let below : AllBelow (count_of shape) (linear shape places) =
    indices_below shape places (inside (is_fine _ _ _ answers).fit) in
    ap (meaning kind (length places)) is
    ∙ (ap (λ k. meaning kind k (gathered (size_in (fixed_size kind)) (count_of shape) (linear shape places) old old))
    (sym (length-map places (linear_index shape)))
    ∙ extract_means kind (count_of shape) (linear shape places) old xs below e)
selected raw kind shape places fits old (Err e') inside answers is xs e = tt

pub selected_short : {T : Type 0} (raw : T → ArrayBytes) (kind : Kind) (shape : List ℕ) (places : List (List ℕ))
    (fits : Bool) (old : ArrayBytes) (r : Result T CodecError) →
    (fits ≡ true → AllByRecursion (λ tuple. contains (whole shape) tuple ≡ true) places) →
    Answers (extract_answer kind fits (count_of shape) old) r →
    IfOk r (λ v. raw v ≡ gathered (size_in (fixed_size kind)) (count_of shape) (linear shape places) old old) →
    has_long_element old ≡ false → IfOk r (λ v. has_long_element (raw v) ≡ false)
selected_short raw kind shape places fits old (Ok v) inside answers is short =
    let all = is_fine _ _ _ answers in
    let long : lengths_refusal (size_in (fixed_size kind)) (count_of shape) old ≡ None = sized_fine _ _ _ all.lengths in
    let below : AllBelow (count_of shape) (linear shape places) = indices_below shape places (inside all.fit) in
    ap has_long_element is
    ∙ still_short (size_in (fixed_size kind)) (count_of shape) (count_of shape) (linear shape places) old old long long
    short short (below_twice (count_of shape) (linear shape places) below)
selected_short raw kind shape places fits old (Err e') inside answers is short = tt

-- what is filled
pub filled_answer : {T E : Type 0} (raw : T → ArrayBytes) (kind : Kind) (number : ℕ) (fill : List ℕ) (r : Result T E) →
    IfOk r (λ v. raw v ≡ filled_with kind number fill) →
    (x : Element) → fill_element kind fill ≡ Some x →
    IfOk r (λ v. meaning kind number (raw v) ≡ Some (replicate number x))
filled_answer raw kind number fill (Ok v) is x e = ap (meaning kind number) is ∙ filled_means kind number fill x e
filled_answer raw kind number fill (Err e') is x e = tt

pub short_answer : {T E : Type 0} (raw : T → ArrayBytes) (kind : Kind) (number : ℕ) (fill : List ℕ) (r : Result T E) →
    IfOk r (λ v. raw v ≡ filled_with kind number fill) →
    length (innermost_fill kind fill) < 2 ^ 32 → IfOk r (λ v. has_long_element (raw v) ≡ false)
short_answer raw kind number fill (Ok v) is h = ap has_long_element is ∙ filled_short kind number fill h
short_answer raw kind number fill (Err e') is h = tt
