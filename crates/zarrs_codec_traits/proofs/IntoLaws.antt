-- What a target answers to elements of a kind.
use Rattle.std.proofs.Common.{◌≡◌, ℕ, ◌*◌, ◌==◌, List, [], ◌∷◌, length, map, Option, Some, None, Result, Ok, Err, IfOk}
use Rattle.std.proofs.Common.{refl, sym, ap, ap₂, ◌∙◌, inr, eqb-true}
use Rattle.zarrs_codec_traits.specs.Prelude.{Element, of_bytes, Kind, fixed, variable, optional, pieces, meaning}
use Rattle.zarrs_codec_traits.specs.Prelude.{ArrayBytes, fixed_bytes, variable_bytes, optional_bytes, BytesAnswer}
use Rattle.zarrs_codec_traits.specs.Prelude.{then_answer, told, Answers, held_by, IsTargetOf, Gives}
use Rattle.zarr_model.proofs.BytesLaws.{when_some, mask_length}
use Rattle.zarrs_codec_slices.proofs.MaskLaws.{IsMasked, masked_parts}
use Rattle.zarrs_codec_error.specs.declared.error.CodecError.{CodecError}
use Rattle.zarrs_codec_array_bytes_parts.specs.declared.array_bytes_fixed_disjoint_view.ArrayBytesFixedDisjointView.{
  ArrayBytesFixedDisjointView,
}
use Rattle.zarrs_codec_array_bytes_parts.proofs.HeldLaws.{holds_meaning}
use Rattle.zarrs_codec_array_bytes_parts.specs.Targets.{ArePut, kinds_answer, view_answer, sizes_answer, target_answer}
use Rattle.zarrs_codec_traits.specs.Into.{kind_answer, views_answer, into_answer, DecodesInto, IsPut}

kinds_as :
    (kind : Kind) (number : ℕ) (bytes : ArrayBytes) (views : List ArrayBytesFixedDisjointView) (xs : List Element) →
    meaning kind number bytes ≡ Some xs → kinds_answer (length views) bytes ≡ kind_answer kind (length views)
kinds_as (fixed size) number (fixed_bytes value) [] xs means = refl
kinds_as (fixed size) number (fixed_bytes value) (view ∷ views) xs means = refl
kinds_as (fixed size) number (variable_bytes value offsets) views xs means = cc
kinds_as (fixed size) number (optional_bytes under mask) views xs means = cc
kinds_as variable number (fixed_bytes value) views xs means = cc
kinds_as variable number (variable_bytes value offsets) [] xs means = refl
kinds_as variable number (variable_bytes value offsets) (view ∷ views) xs means = refl
kinds_as variable number (optional_bytes under mask) views xs means = cc
kinds_as (optional kind) number (fixed_bytes value) views xs means = cc
kinds_as (optional kind) number (variable_bytes value offsets) views xs means = cc
kinds_as (optional kind) number (optional_bytes under mask) [] xs means = refl
kinds_as (optional kind) number (optional_bytes under mask) (view ∷ views) xs means =
    let parts : IsMasked kind number mask under xs = masked_parts kind number mask under xs means in
    kinds_as kind number under views parts.list parts.inner

sizes_as : (kind : Kind) (number : ℕ) (bytes : ArrayBytes) (views : List ArrayBytesFixedDisjointView)
    (inner : ArrayBytesFixedDisjointView) (xs : List Element) →
    meaning kind number bytes ≡ Some xs → sizes_answer bytes views inner ≡ views_answer kind number views inner
sizes_as (fixed size) number (fixed_bytes value) views inner xs means =
    ap (λ n. view_answer n inner) (eqb-true (length value)
    (number * size) (when_some (length value == number * size) (map of_bytes (pieces number size value)) xs means).0)
sizes_as (fixed size) number (variable_bytes value offsets) views inner xs means = cc
sizes_as (fixed size) number (optional_bytes under mask) views inner xs means = cc
sizes_as variable number (fixed_bytes value) views inner xs means = cc
sizes_as variable number (variable_bytes value offsets) views inner xs means = refl
sizes_as variable number (optional_bytes under mask) views inner xs means = cc
sizes_as (optional kind) number (fixed_bytes value) views inner xs means = cc
sizes_as (optional kind) number (variable_bytes value offsets) views inner xs means = cc
sizes_as (optional kind) number (optional_bytes under mask) [] inner xs means = refl
sizes_as (optional kind) number (optional_bytes under mask) (view ∷ views) inner xs means =
    let parts : IsMasked kind number mask under xs = masked_parts kind number mask under xs means in
    ap₂ then_answer (ap (λ n. view_answer n view) (mask_length number mask parts.mask_is))
    (sizes_as kind number under views inner parts.list parts.inner)

pub into_means : (kind : Kind) (number : ℕ) (bytes : ArrayBytes) (views : List ArrayBytesFixedDisjointView)
    (inner : ArrayBytesFixedDisjointView) (xs : List Element) →
    meaning kind number bytes ≡ Some xs → target_answer bytes views inner ≡ into_answer kind number views inner
into_means kind number bytes views inner xs means =
    ap₂ then_answer (kinds_as kind number bytes views xs means) (sizes_as kind number bytes views inner xs means)

-- an answer that is told exactly
answers : {T : Type 0} (result : Result T CodecError) (wanted : BytesAnswer) → told result ≡ wanted →
    Answers wanted result
answers (Ok v) wanted e = sym e
answers (Err error) wanted e = inr e

pub put_answers :
    {T : Type 0} (kind : Kind) (number : ℕ) (bytes : ArrayBytes) (views : List ArrayBytesFixedDisjointView)
    (inner : ArrayBytesFixedDisjointView) (xs : List Element) (result : Result T CodecError) →
    told result ≡ target_answer bytes views inner → meaning kind number bytes ≡ Some xs →
    Answers (into_answer kind number views inner) result
put_answers kind number bytes views inner xs result e means =
    answers result _ (e ∙ into_means kind number bytes views inner xs means)

-- a value that decodes is put as the target answers
pub decodes_into : {T : Type 0} (wanted given : Option (List Element)) (says : CodecError → Type 0)
    (told : BytesAnswer) (result : Result T CodecError) →
    Gives given wanted → ((xs : List Element) → given ≡ Some xs → Answers told result) →
    DecodesInto wanted says told result
decodes_into (Some xs) given says told result gives put = put xs gives.same
decodes_into None given says told result gives put = cc

-- what a target holds is what the value decodes to
pub held_after :
    {T E : Type 0} (kind : Kind) (number : ℕ) (bytes : ArrayBytes) (olds news : List ArrayBytesFixedDisjointView)
    (from to : ArrayBytesFixedDisjointView) (wanted : Option (List Element)) (result : Result T E) →
    IsTargetOf kind number olds from → Gives (meaning kind number bytes) wanted →
    IfOk result (λ _. ArePut bytes olds news from to) → IfOk result (λ _. wanted ≡ Some (held_by news to))
held_after kind number bytes olds news from to (Some xs) (Ok v) target gives put =
    ap Some (sym (holds_meaning kind number bytes olds news from to xs target gives.same put))
held_after kind number bytes olds news from to None (Ok v) target gives put = cc
held_after kind number bytes olds news from to wanted (Err e) target gives put = tt

-- and what was put means what the value decodes to
pub put_after :
    {T E : Type 0} (kind : Kind) (number : ℕ) (bytes : ArrayBytes) (olds news : List ArrayBytesFixedDisjointView)
    (from to : ArrayBytesFixedDisjointView) (wanted : Option (List Element)) (result : Result T E) →
    Gives (meaning kind number bytes) wanted → IfOk result (λ _. ArePut bytes olds news from to) →
    IfOk result (λ _. IsPut kind number wanted olds news from to)
put_after kind number bytes olds news from to wanted (Ok v) gives put =
    record { bytes = bytes; means = gives; put = put }
put_after kind number bytes olds news from to wanted (Err e) gives put = tt
