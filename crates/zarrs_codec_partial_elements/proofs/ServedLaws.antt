-- What is said of a level that a codec does not serve.
use Rattle.std.proofs.Common.{◌≡◌, ◌⊎◌, ◌∙◌, ℕ, ◌*◌, ap, refl, sym, subst, Bool, true, Option, Some, None, IsSome}
use Rattle.std.proofs.Common.{option_map, Result, Ok, Err, IsOk, IfOk, IfErr, ⊎_elim}
use Rattle.zarrs_codec_error.specs.declared.error.CodecError.{CodecError}
use Rattle.zarrs_codec_error.specs.declared.error.CodecError.TheVariants as codec
use Rattle.zarr_model.specs.Command as model
use Rattle.zarr_model.proofs.BytesLaws.{refusal-meaning}
use Rattle.zarrs_codec_traits.specs.Prelude.{inner_length}
use Rattle.zarrs_codec.specs.Prelude.{BytesAnswer, fine, told_by, first_answer, Refused, by_codec, RefusesFor}
use Rattle.zarrs_codec.specs.Prelude.{ArrayBytes, Kind, Level, meaning, kind_of, count_of, fixed_size, size_in, list_at}
use Rattle.zarrs_codec.specs.Prelude.{bytes_refusal, validity, given_answer}
use Rattle.zarrs_codec_array_bytes.specs.Refusals.{sized_answer}
use Rattle.zarrs_codec_array_bytes.specs.declared.array_bytes.ArrayBytes as code
use Rattle.zarrs_codec_array_bytes.proofs.ToldLaws.{first_fine}
use Rattle.zarrs_codec_array_bytes.proofs.ToldLaws.{says_some}
use Rattle.zarrs_codec_traits.specs.Errors.{Unserved}
use Rattle.zarrs_codec.proofs.NamedLaws.{refused_never, refused_memory}

-- what a codec answers that tells exactly whether it serves a level

-- what is tested before that is in order
pub answer_named : (U : Type 0) (why : Option Refused) (wanted : BytesAnswer) (e : CodecError) → wanted ≡ fine →
    (e ≡ codec.OutOfMemory) ⊎ (told_by e ≡ wanted) → RefusesFor {T = U} why (Err e)
answer_named U why wanted e all answer =
    ⊎_elim (λ (m : e ≡ codec.OutOfMemory). refused_memory U why e m)
    (λ (t : told_by e ≡ wanted). absurd (says_some e (t ∙ all))) answer

pub fitting_named : (U : Type 0) (why : Option Refused) (fits : Bool) (e : CodecError) → fits ≡ true →
    (e ≡ codec.OutOfMemory) ⊎ (told_by e ≡ first_answer None fits fine) → RefusesFor {T = U} why (Err e)
fitting_named U why fits e inside answer =
    answer_named U why _ e (ap (λ (b : Bool). first_answer None b fine) inside) answer

-- a level that is served
pub served_for : {T : Type 0} (why : Option Unserved) (r : Result T CodecError) → why ≡ None →
    RefusesFor (option_map by_codec why) r
served_for None r is = tt
served_for (Some why) r is = cc

pub served_if : {T : Type 0} (why : Option Unserved) (r : Result T CodecError) →
    RefusesFor (option_map by_codec why) r → IfOk r (λ v. why ≡ None)
served_if None (Ok v) refuses = refl
served_if (Some why) (Ok v) refuses = absurd refuses
served_if why (Err e) refuses = tt

pub never_err : {T : Type 0} (P : CodecError → Type 0) (r : Result T CodecError) → IsOk r → IfErr r P
never_err P (Ok v) ok = tt
never_err P (Err e) ok = cc

-- a first step that is Ok was not refused, or what it gives is valid
pub step_named : {U : Type 0} (old mid : Option Refused) (v : code.ArrayBytes) (Q : Type 0) (r : Result U CodecError) →
    mid ≡ old → RefusesFor old (Ok v) ⊎ Q → (Q → RefusesFor mid r) → RefusesFor old r
step_named old mid v Q r same step next =
    ⊎_elim (λ (no : RefusesFor old (Ok v)). refused_never old v r no)
    (λ (q : Q). subst (λ (o : Option Refused). RefusesFor o r) same (next q)) step

pub copied_valid : (level : Level) (number : ℕ) (raw copy : ArrayBytes) → number ≡ count_of level.shape → copy ≡ raw →
    IsSome (meaning (kind_of level.data_type) number raw) → IsSome (list_at level copy)
copied_valid level number raw copy long same there =
    subst (λ (r : ArrayBytes). IsSome (list_at level r)) (sym same)
    (subst (λ (n : ℕ). IsSome (meaning (kind_of level.data_type) n raw)) long there)

-- elements and an indexer that are in order
sized_fine : (len expected : ℕ) (why : Option model.Refusal) → sized_answer len expected why ≡ fine → why ≡ None
sized_fine len expected None is = refl
sized_fine len expected (Some model.incompatible_dimensionality) is = cc
sized_fine len expected (Some model.subset_out_of_bounds) is = cc
sized_fine len expected (Some model.region_too_large) is = cc
sized_fine len expected (Some model.expected_fixed_length_bytes) is = cc
sized_fine len expected (Some model.expected_variable_length_bytes) is = cc
sized_fine len expected (Some model.expected_optional_bytes) is = cc
sized_fine len expected (Some model.invalid_mask) is = cc
sized_fine len expected (Some model.unexpected_chunk_decoded_size) is = cc
sized_fine len expected (Some model.invalid_variable_sized_array_offsets) is = cc
sized_fine len expected (Some model.element_too_long) is = cc

pub given_valid : (kind : Kind) (fits : Bool) (number : ℕ) (raw : ArrayBytes) →
    given_answer kind fits number raw ≡ fine → IsSome (meaning kind number raw)
given_valid kind fits number raw all =
    (refusal-meaning kind number raw).0 (sized_fine (inner_length raw) (number * size_in (fixed_size kind))
    (bytes_refusal kind number raw) (first_fine (validity kind number raw) (first_answer None fits fine) all))
