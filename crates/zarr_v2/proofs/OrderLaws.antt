-- The numbers below one, the last one first, are an order.
use Rattle.std.proofs.Common.{◌≡◌, ap, refl, ℕ, zero, suc, ◌<◌, ◌≤◌, true, false, nat_lt, length, arith, le_refl}
use Rattle.std.specs.Prelude.{◌==◌}
use Rattle.std.specs.List.{list_all, list_any}
use Rattle.std.proofs.lemmas.Bool.{lt-ltb, ne_eqb}
use Rattle.zarr_codecs_elements.specs.Order.{is_order, are_apart}
use Rattle.zarr_v2.specs.Translate.{reversed_order}

pub reversed_length : (n : ℕ) → length (reversed_order n) ≡ n
reversed_length zero = refl
reversed_length (suc n) = ap suc (reversed_length n)

all_below : (k m : ℕ) → k ≤ m → list_all (λ d. nat_lt d m) (reversed_order k) ≡ true
all_below zero m h = refl
all_below (suc k) m h =
    let less : k < m = omega (arith, h) in
    let rest = all_below k m (omega (arith, h)) in
    rw (lt-ltb k m less, rest) refl

not_below : (k m : ℕ) → k ≤ m → list_any (λ y. m == y) (reversed_order k) ≡ false
not_below zero m h = refl
not_below (suc k) m h =
    let apart : (m == k) ≡ false = ne_eqb m k (λ (e : m ≡ k). let f : ⊥ = omega (arith, h, e) in f) in
    let rest = not_below k m (omega (arith, h)) in
    rw (apart, rest) refl

apart : (k : ℕ) → are_apart (reversed_order k) ≡ true
apart zero = refl
apart (suc k) = rw (not_below k k (le_refl k), apart k) refl

pub reversed_is_order : (n : ℕ) → is_order (reversed_order n) ≡ true
reversed_is_order n = rw (reversed_length n, all_below n n (le_refl n), apart n) refl
