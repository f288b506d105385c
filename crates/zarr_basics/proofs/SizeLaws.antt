-- When there are too many elements of a size.
use Rattle.std.proofs.Common.{◌≡◌, ℕ, ◌+◌, ◌*◌, ◌^◌, ◌<◌, ◌≤◌, nat_lt, nat_le, ◌||◌, Bool, true, false, if◌then◌else◌}
use Rattle.std.proofs.Common.{Option, Some, None, refl, sym, ap, ap₂, ◌∙◌, arith, ⊎_elim}
use Rattle.std.specs.declared.num.NonZeroU64.{NonZeroU64}
use Rattle.std.specs.Int.NonZero.{non_zero_u64_get}
use Rattle.std.proofs.lemmas.Bool.{true≢false, leb-true, le-leb, lt-ltb, cases_lt, cond-true, cond-false}
use Rattle.std.proofs.lemmas.Bool.{false_from_ne_true}
use Rattle.std.proofs.lemmas.Bool.Decides.{nat_tests}
use Rattle.std.proofs.lemmas.Nat.{mul-le}
use Rattle.std.proofs.Math.Nat.{le-mul_of_pos_right, mul_comm}
use Rattle.zarr_model.specs.Command.{is_too_large}
use Rattle.zarr_basics.specs.Largest.{Grows}
use Rattle.zarr_basics.specs.LimitTests.{in_64_bits}

not_below : (n m : ℕ) → m ≤ n → nat_lt n m ≡ false
not_below n m h = grind (arith, nat_tests)

-- a product of positive numbers is too great if a part of it is
pub no_product : (p : NonZeroU64) (rest : ℕ) → in_64_bits rest ≡ None → in_64_bits (non_zero_u64_get p * rest) ≡ None
no_product p rest e = ⊎_elim
    (λ (l : rest < 2 ^ 64).
    clash (sym (cond-true (nat_lt rest (2 ^ 64)) (Some rest) None (lt-ltb rest (2 ^ 64) l)) ∙ e))
    (λ (g : 2 ^ 64 ≤ rest).
    cond-false (nat_lt (non_zero_u64_get p * rest) (2 ^ 64)) (Some (non_zero_u64_get p * rest)) None
    (not_below (non_zero_u64_get p * rest) (2 ^ 64) (let more : rest ≤ rest * non_zero_u64_get p =
    le-mul_of_pos_right rest p.ok in omega (arith, more, mul_comm rest (non_zero_u64_get p)))))
    (cases_lt rest (2 ^ 64))
  where
    clash : {P : Type 0} → Some rest ≡ None → P
    clash e = cc

pub is_product : (n rest : ℕ) → in_64_bits n ≡ Some rest → n ≡ rest
is_product n rest e = go (nat_lt n (2 ^ 64)) e
  where
    go : (b : Bool) → (if b then Some n else None) ≡ Some rest → n ≡ rest
    go true e = cc
    go false e = cc

pub ruleset of_products = (no_product, is_product)

-- the tests of a number and a size, case by case
past_most : (n : ℕ) → in_64_bits n ≡ None → nat_le (2 ^ 64) (n + 1) ≡ true
past_most n e = ⊎_elim
    (λ (l : n < 2 ^ 64). clash (sym (cond-true (nat_lt n (2 ^ 64)) (Some n) None (lt-ltb n (2 ^ 64) l)) ∙ e))
    (λ (g : 2 ^ 64 ≤ n). le-leb (2 ^ 64) (n + 1) (omega arith))
    (cases_lt n (2 ^ 64))
  where
    clash : {P : Type 0} → Some n ≡ None → P
    clash e = cc

pub large_none : (size : Option ℕ) (n : ℕ) → in_64_bits n ≡ None → is_too_large size n ≡ true
large_none None n e = past_most n e
large_none (Some size) n e = ap (λ b. b || nat_le (2 ^ 64) (n * size)) (past_most n e)

at_most : (n : ℕ) → in_64_bits n ≡ Some 18446744073709551615 → nat_le (2 ^ 64) (n + 1) ≡ true
at_most n e = le-leb (2 ^ 64) (n + 1) (omega (arith, is_product n 18446744073709551615 e))

pub large_most : (size : Option ℕ) (n : ℕ) → in_64_bits n ≡ Some 18446744073709551615 → is_too_large size n ≡ true
large_most None n e = at_most n e
large_most (Some size) n e = ap (λ b. b || nat_le (2 ^ 64) (n * size)) (at_most n e)

below_64 : (n k : ℕ) → in_64_bits n ≡ Some k → n < 2 ^ 64
below_64 n k e = ⊎_elim (λ (l : n < 2 ^ 64). l)
    (λ (g : 2 ^ 64 ≤ n). clash (sym (cond-false (nat_lt n (2 ^ 64)) (Some n) None (not_below n (2 ^ 64) g)) ∙ e))
    (cases_lt n (2 ^ 64))
  where
    clash : {P : Type 0} → None ≡ Some k → P
    clash e = cc

few_enough : (n k : ℕ) → in_64_bits n ≡ Some k → (k ≡ 18446744073709551615 → ⊥) → nat_le (2 ^ 64) (n + 1) ≡ false
few_enough n k e other = false_from_ne_true (nat_le (2 ^ 64) (n + 1)) (λ t. let high : 2 ^ 64 ≤ n + 1 =
    leb-true (2 ^ 64) (n + 1) t in other (omega (arith, high, is_product n k e, below_64 n k e)))

pub large_unsized : (n k : ℕ) → in_64_bits n ≡ Some k → (k ≡ 18446744073709551615 → ⊥) → is_too_large None n ≡ false
large_unsized n k e other = few_enough n k e other

pub large_sized : (n k size : ℕ) → in_64_bits n ≡ Some k → (k ≡ 18446744073709551615 → ⊥) →
    is_too_large (Some size) n ≡ nat_le (2 ^ 64) (n * size)
large_sized n k size e other = ap (λ b. b || nat_le (2 ^ 64) (n * size)) (few_enough n k e other)

pub ruleset of_sizes = (large_none, large_most, large_unsized, large_sized)

-- fewer elements are not too large where more are not
past_fewer : (n m : ℕ) → n ≤ m → nat_le (2 ^ 64) m ≡ false → nat_le (2 ^ 64) n ≡ false
past_fewer n m le small = false_from_ne_true (nat_le (2 ^ 64) n)
    (λ t. let high : 2 ^ 64 ≤ n = leb-true (2 ^ 64) n t in true≢false (sym (le-leb (2 ^ 64) m (omega arith)) ∙ small))

either_false : (a b : Bool) → (a || b) ≡ false → (a ≡ false) × (b ≡ false)
either_false false false e = (refl, refl)
either_false true b e = cc
either_false false true e = cc

pub too_large_grows : (size : Option ℕ) → Grows (is_too_large size)
too_large_grows None n m le small = past_fewer (n + 1) (m + 1) (omega arith) small
too_large_grows (Some size) n m le small =
    let parts = either_false (nat_le (2 ^ 64) (m + 1)) (nat_le (2 ^ 64) (m * size)) small in
    ap₂ (λ a b. a || b) (past_fewer (n + 1) (m + 1) (omega arith) parts.0)
    (past_fewer (n * size) (m * size) (mul-le n size m size le (omega arith)) parts.1)
