-- What a codec answers of elements that mean a list.
use Rattle.std.proofs.Common.{◌≡◌, ℕ, true, Option, Some, None, is_some, List, Result, Ok, Err, MatchResult, IfOk, refl}
use Rattle.std.proofs.Common.{ap, ◌∙◌, inl, inr, option_and_then}
use Rattle.zarrs_codec_traits.specs.Prelude.{Element, Kind, ArrayBytes, meaning, BytesAnswer, fine, validity}
use Rattle.zarrs_codec_traits.specs.Prelude.{sized_answer, Answers, Gives}
use Rattle.zarr_model.proofs.BytesLaws.{refusal-meaning}
use Rattle.zarrs_codec_error.specs.declared.error.CodecError.{CodecError}
use Rattle.zarrs_codec_error.specs.declared.error.CodecError.TheVariants as codec
use Rattle.zarrs_codec_array_bytes.proofs.CheckLaws.{sized_fine}
use Rattle.zarrs_codec_array_bytes.proofs.ToldLaws.{says_some}

pub valid_fine : (kind : Kind) (number : ℕ) (raw : ArrayBytes) (xs : List Element) → meaning kind number raw ≡ Some xs →
    validity kind number raw ≡ fine
valid_fine kind number raw xs means = ap (sized_answer _ _) ((refusal-meaning kind number raw).1 (ap is_some means))

pub fine_valid : (kind : Kind) (number : ℕ) (raw : ArrayBytes) → validity kind number raw ≡ fine →
    is_some (meaning kind number raw) ≡ true
fine_valid kind number raw valid = (refusal-meaning kind number raw).0 (sized_fine _ _ _ valid)

pub only_memory : {T : Type 0} (r : Result T CodecError) (told : BytesAnswer) (P : T → Type 0) → told ≡ fine →
    Answers told r → IfOk r P → MatchResult r P (λ e. e ≡ codec.OutOfMemory)
only_memory (Ok v) told P is answers ok = ok
only_memory (Err e) told P is (inl memory) ok = memory
only_memory (Err e) told P is (inr says) ok = absurd (says_some e (says ∙ is))

pub down_up : {A : Type 0} (above below back : Option A) (f : A → Option A) → option_and_then f below ≡ above →
    is_some above ≡ true → ((x : A) → below ≡ Some x → Gives back (f x)) → back ≡ above
down_up above (Some x) back f e there gives = (gives x refl).same ∙ e
down_up above None back f e there gives = cc
