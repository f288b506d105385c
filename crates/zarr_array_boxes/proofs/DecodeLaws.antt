-- What holds of each value that a read met.
use Rattle.std.proofs.Common.{◌≡◌, ℕ, ◌+◌, ◌<◌, ◌≤◌, List, length, slice_get, Option, Some, sym, ap, ◌∙◌, subst, arith}
use Rattle.std.proofs.Common.{⊎_elim}
use Rattle.std.proofs.Math.Nat.{eq-or-lt_of_le}
use Rattle.std.proofs.lemmas.Option.{slice_get_within, same_Some}
use Rattle.zarr_model.specs.Prelude.{Content}

-- what holds of a chunk by what stands under its key
module _ (holds : List ℕ → Option (List ℕ) → Type 0) (key : List ℕ → List ℕ) (chunks : List (List ℕ)) where
  -- the chunks of a list below a place, and the one there
  pub each-step : (old mid : Content) (n : ℕ) (here : List ℕ) → slice_get chunks n ≡ Some here →
      ((k : List ℕ) → mid k ≡ old k) →
      ((k : ℕ) (chunk : List ℕ) → k < n → slice_get chunks k ≡ Some chunk → holds chunk (old (key chunk))) →
      holds here (mid (key here)) →
      (k : ℕ) (chunk : List ℕ) → k < n + 1 → slice_get chunks k ≡ Some chunk → holds chunk (old (key chunk))
  each-step old mid n here is same before now k chunk within e =
      let little : k ≤ n = omega (arith, within) in
      ⊎_elim
      (λ (last : k ≡ n).
      let own : here ≡ chunk = same_Some here chunk (sym is ∙ (ap (slice_get chunks) (sym last) ∙ e)) in
      subst (holds chunk) (same (key chunk)) (subst (λ c. holds c (mid (key c))) own now))
      (λ (below : k < n). before k chunk below e)
      (eq-or-lt_of_le little)

  -- all chunks of a list
  pub each-all : (old : Content) (n : ℕ) → length chunks ≤ n →
      ((k : ℕ) (chunk : List ℕ) → k < n → slice_get chunks k ≡ Some chunk → holds chunk (old (key chunk))) →
      (k : ℕ) (chunk : List ℕ) → slice_get chunks k ≡ Some chunk → holds chunk (old (key chunk))
  each-all old n all before k chunk e =
      let within : k < length chunks = slice_get_within chunks k chunk e in
      before k chunk (omega (arith, within, all)) e
