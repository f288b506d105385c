-- No element grows too long where elements are picked.
use Rattle.std.proofs.Common.{◌≡◌, ℕ, zero, suc, ◌+◌, ◌-◌, ◌^◌, ◌<◌, ◌≤◌, ◌||◌, false, nat_lt, nat_le, List, [], ◌∷◌}
use Rattle.std.proofs.Common.{length, take, drop, map, get_or, arith, ap, sym, refl, ◌∙◌, subst, ⊎_elim}
use Rattle.std.proofs.lemmas.Bool.{cond-true, cond-false, cases_lt, lt-ltb, or_parts}
use Rattle.std.proofs.lemmas.Bool.Decides.{nat_tests}
use Rattle.zarr_model.specs.ArrayBytes.{ends_from}
use Rattle.zarr_model.specs.Command.{has_long_step}
use Rattle.zarrs_codec_slices.specs.Picking.{AllBelow, value_of, picked_value}
use Rattle.zarrs_codec_slices.proofs.LeafLaws.{below_rest}

below_step : (from to : ℕ) → nat_le (from + 2 ^ 32) to ≡ false → to - from < 2 ^ 32
below_step from to e = grind (arith, nat_tests)

not_step : (from size : ℕ) → size < 2 ^ 32 → nat_le (from + 2 ^ 32) (from + size) ≡ false
not_step from size h = grind (arith, nat_tests)

step_at : (offsets : List ℕ) (i : ℕ) → has_long_step offsets ≡ false → i + 1 < length offsets →
    get_or offsets (i + 1) 0 - get_or offsets i 0 < 2 ^ 32
step_at [] i e h = absurd (omega arith)
step_at (from ∷ []) i e h = absurd (omega arith)
step_at (from ∷ to ∷ offsets) zero e h =
    below_step from to (or_parts (nat_le (from + 2 ^ 32) to) (has_long_step (to ∷ offsets)) e).0
step_at (from ∷ to ∷ offsets) (suc i) e h =
    let more : suc i + 1 ≡ suc (i + 1) = omega arith in
    subst (λ m. get_or (from ∷ to ∷ offsets) m 0 - get_or (to ∷ offsets) i 0 < 2 ^ 32) (sym more)
    (step_at (to ∷ offsets) i (or_parts (nat_le (from + 2 ^ 32) to) (has_long_step (to ∷ offsets)) e).1 (omega arith))

take_short : (n limit : ℕ) (xs : List ℕ) → n < limit → length (take n xs) < limit
take_short zero limit xs h = h
take_short (suc n) limit [] h = omega (arith, h)
take_short (suc n) (suc limit) (x ∷ xs) h = let inner : length (take n xs) < limit =
    take_short n limit xs (omega (arith, h)) in omega (arith, inner)
take_short (suc n) zero (x ∷ xs) h = absurd (omega (arith, h))

pub value_short : (value offsets : List ℕ) (i : ℕ) → has_long_step offsets ≡ false → i + 1 < length offsets →
    length (value_of value offsets i) < 2 ^ 32
value_short value offsets i e h = take_short (get_or offsets (i + 1) 0 - get_or offsets i 0)
    (2 ^ 32) (drop (get_or offsets i 0) value) (step_at offsets i e h)

-- values that are short one after another
ends_short : (f : ℕ → List ℕ) (limit place : ℕ) (xs : List ℕ) → ((w : ℕ) → w < limit → length (f w) < 2 ^ 32) →
    AllBelow limit xs → has_long_step (place ∷ ends_from place (map f xs)) ≡ false
ends_short f limit place [] short all = refl
ends_short f limit place (x ∷ xs) short all =
    ap (λ b. b || has_long_step ((place + length (f x)) ∷ ends_from (place + length (f x)) (map f xs)))
    (not_step place (length (f x)) (short x (all 0 (omega arith))))
    ∙ ends_short f limit (place + length (f x)) xs short (below_rest limit x xs all)

pub gathered_short : (number m : ℕ) (old from new to picks : List ℕ) → length from ≡ number + 1 → length to ≡ m + 1 →
    has_long_step from ≡ false → has_long_step to ≡ false → AllBelow (number + m) picks →
    has_long_step (0 ∷ ends_from 0 (map (picked_value number old from new to) picks)) ≡ false
gathered_short number m old from new to picks from_long to_long e f all =
    ends_short (picked_value number old from new to) (number + m) 0 picks short all
  where
    short : (w : ℕ) → w < number + m → length (picked_value number old from new to w) < 2 ^ 32
    short w h = ⊎_elim
        (λ (low : w < number). subst (λ v. length v < 2 ^ 32)
        (sym (cond-true (nat_lt w number) (value_of old from w) (value_of new to (w - number)) (lt-ltb w number low)))
        (value_short old from w e (omega (arith, low, from_long))))
        (λ (high : number ≤ w). subst (λ v. length v < 2 ^ 32) (sym (cond-false (nat_lt w number) (value_of old from w)
        (value_of new to (w - number)) (grind (arith, nat_tests))))
        (value_short new to (w - number) f (omega (arith, h, high, to_long))))
        (cases_lt w number)
