-- The numbers below one, the last one first.
use Rattle.std.proofs.Common.{◌≡◌, ◌∙◌, ap, sym, ℕ, zero, suc, ◌-◌, ◌<◌, List, [], ◌∷◌, ◌++◌, arith}
use Rattle.std.proofs.lemmas.List.{append_assoc}
use Rattle.zarr_v2.specs.Translate.{reversed_order}

pub one_less : (n : ℕ) → 0 < n → reversed_order n ≡ (n - 1) ∷ reversed_order (n - 1)
one_less zero h = absurd (let f : ⊥ = omega arith in f)
one_less (suc n) h = let e : suc n - 1 ≡ n = omega arith in ap (λ (m : ℕ). m ∷ reversed_order m) (sym e)

pub one_taken : (xs all : List ℕ) (n : ℕ) → 0 < n → xs ++ reversed_order n ≡ all →
    (xs ++ ((n - 1) ∷ [])) ++ reversed_order (n - 1) ≡ all
one_taken xs all n h is =
    append_assoc xs ((n - 1) ∷ []) (reversed_order (n - 1)) ∙ (ap (λ (ys : List ℕ). xs ++ ys) (sym (one_less n h)) ∙ is)
