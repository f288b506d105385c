-- Chunks and indices that can't be addressed.
use Rattle.std.proofs.Common.{◌≡◌, ℕ, ◌*◌, ◌^◌, ◌<◌, ◌&&◌, nat_le, Bool, true, false, List, [], ◌∷◌}
use Rattle.std.proofs.Common.{Option, Some, None, refl, sym, ap, ◌∙◌, arith}
use Rattle.std.specs.List.{list_all}
use Rattle.std.proofs.lemmas.Bool.Decides.{nat_tests}
use Rattle.zarr_model.specs.Prelude.{count_of, is_too_large}

zero_is : (p : ℕ) → nat_le 1 p ≡ false → p ≡ 0
zero_is p e = grind (arith, nat_tests)

-- with a length that is not positive there are no elements
count_none : (lengths : List ℕ) → list_all (λ p. nat_le 1 p) lengths ≡ false → count_of lengths ≡ 0
count_none [] e = cc
count_none (p ∷ lengths) e = go (nat_le 1 p) refl (λ rest. count_none lengths rest) e
  where
    go : (b : Bool) → nat_le 1 p ≡ b → (list_all (λ q. nat_le 1 q) lengths ≡ false → count_of lengths ≡ 0) →
        (b && list_all (λ q. nat_le 1 q) lengths) ≡ false → p * count_of lengths ≡ 0
    go true is none e = ap (λ n. p * n) (none e) ∙ omega arith
    go false is none e = ap (λ n. n * count_of lengths) (zero_is p is) ∙ omega arith

not_large : (n m : ℕ) → n < m → nat_le m n ≡ false
not_large n m h = grind (arith, nat_tests)

pub none_large : (lengths : List ℕ) (size : Option ℕ) → list_all (λ p. nat_le 1 p) lengths ≡ false →
    false ≡ is_too_large size (count_of lengths)
none_large lengths None e = sym (ap (is_too_large None) (count_none lengths e))
none_large lengths (Some size) e =
    sym (ap (is_too_large (Some size)) (count_none lengths e) ∙ not_large (0 * size) (2 ^ 64) (omega arith))
