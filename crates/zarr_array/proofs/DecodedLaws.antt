-- What had been met before the place where commands ended.
use Rattle.std.proofs.Common.{◌≡◌, ◌<◌, ◌⊎◌, ℕ, true, false, not, List, [], ◌∷◌, take, slice_get, Some, None, IsSome}
use Rattle.std.proofs.Common.{is_some, refl, sym, ap, ◌∙◌, subst, arith, inl, inr, ⊎_elim}
use Rattle.std.proofs.lemmas.Bool.{true≢false, cases_Bool}
use Rattle.std.proofs.lemmas.Option.{same_Some}
use Rattle.zarr_model.specs.Prelude.{IsChunk, CoversShape, Options, Content, chunk_content, Command, read, write, erase}
use Rattle.zarr_model.specs.Prelude.{Description, layout, refusal, command_chunks, finds_shared, passes_over}
use Rattle.zarr_model.specs.Prelude.{KeepsDamage, SeesNoDamage}
use Rattle.zarr_model.proofs.Choices.{none_of}
use Rattle.zarr_model.proofs.FailureLaws.{listed_is_chunk}
use Rattle.zarr_model.proofs.MendedLaws.{content-same}
use Rattle.zarr_model.proofs.SeenLaws.{SeesNoDamage-none}
use Rattle.zarr_array.specs.Decoded.{HasDecoded}

-- what a command passes over is told by what stands under the key
pub passes_over-same : (description : Description) (options : Options) (mid old : Content) (command : Command) (chunk :
    List ℕ) → mid (description.key chunk) ≡ old (description.key chunk) →
    passes_over description options mid command chunk ≡ passes_over description options old command chunk
passes_over-same description options mid old (read region) chunk e =
    ap (finds_shared description options region chunk) e
passes_over-same description options mid old (write region value) chunk e = refl
passes_over-same description options mid old (erase other) chunk e = refl

-- one command, whose first k chunks decode or may be passed over
pub decoded-one : (description : Description) (options : Options) (command : Command) (store : Content) (k : ℕ) →
    ((number : ℕ) (chunk : List ℕ) → number < k → slice_get (command_chunks description command) number ≡ Some chunk →
    IsSome (chunk_content (layout description options) store chunk) ⊎
    (passes_over description options store command chunk ≡ true)) →
    HasDecoded description options (command ∷ []) store 0 k
decoded-one description options command store k first = record {
  before = SeesNoDamage-none description options store;
  first = λ other number chunk is below here none.
      let same : command ≡ other = same_Some command other is in
      subst (λ c. IsSome (chunk_content (layout description options) store chunk) ⊎
      (passes_over description options store c chunk ≡ true)) same
      (first number chunk below
      (subst (λ c. slice_get (command_chunks description c) number ≡ Some chunk) (sym same) here));
}

-- none of its chunks
pub decoded-start : (description : Description) (options : Options) (command : Command) (store : Content) →
    HasDecoded description options (command ∷ []) store 0 0
decoded-start description options command store =
    decoded-one description options command store 0 (λ number chunk below here. absurd (omega (arith, below)))

-- what one command had met, behind others, the list had
pub decoded-lifts : (description : Description) (options : Options) (commands : List Command)
    (m : ℕ) (command : Command) → slice_get commands m ≡ Some command → CoversShape description.shape description.grid →
    (old mid : Content) (k : ℕ) → KeepsDamage description options (take m commands) old mid →
    SeesNoDamage description options (take m commands) old →
    HasDecoded description options (command ∷ []) mid 0 k → HasDecoded description options commands old m k
decoded-lifts description options commands m command here covers old mid k keeps seen single = record {
  before = seen;
  first = λ other number chunk is below listed none.
      let same : command ≡ other = same_Some command other (sym here ∙ is) in
      let is_chunk : IsChunk description.grid chunk =
      listed_is_chunk description covers (refusal description other) other refl number chunk listed in
      ⊎_elim
      (λ (good : is_some (chunk_content (layout description options) old chunk) ≡ true). inl good)
      (λ (bad : is_some (chunk_content (layout description options) old chunk) ≡ false).
      let damaged : chunk_content (layout description options) old chunk ≡ None =
      none_of (chunk_content (layout description options) old chunk) (ap not bad) in
      let kept : mid (description.key chunk) ≡ old (description.key chunk) = keeps.stands chunk is_chunk damaged none in
      ⊎_elim
      (λ (good : IsSome (chunk_content (layout description options) mid chunk)).
      absurd
      (true≢false (sym good ∙ (ap is_some (content-same (layout description options) old mid chunk kept) ∙ bad))))
      (λ (passed : passes_over description options mid other chunk ≡ true).
      inr (sym (passes_over-same description options mid old other chunk kept) ∙ passed))
      (single.first other number chunk (ap Some same) below listed refl))
      (cases_Bool (is_some (chunk_content (layout description options) old chunk)));
}
