-- Orders of dimensions: counts of shapes and places of tuples.
use Rattle.std.proofs.Common.{◌≡◌, ℕ, zero, suc, ◌*◌, ◌<◌, ◌==◌, Bool, true, false, not, nat_lt, List, [], ◌∷◌, length}
use Rattle.std.proofs.Common.{set, get_or, replicate, arith, ap, ap₂, sym, refl, ◌∙◌, subst, eqb-true, eq-eqb}
use Rattle.std.specs.List.{list_all, list_any}
use Rattle.std.proofs.lemmas.Bool.{and_parts}
use Rattle.std.proofs.lemmas.List.{length-set, length-replicate, get_or-set_same, get_or-set_other, get_or-replicate}
use Rattle.std.proofs.lemmas.List.{ext_get_or}
use Rattle.std.proofs.Math.Nat.{mul_comm, mul_assoc}
use Rattle.zarrs_codec_traits.specs.Prelude.{count_of, permuted}
use Rattle.zarr_codecs_elements.specs.Order.{are_apart, is_order}
use Rattle.zarr_codecs_elements.proofs.OrderLaws.{order_below, order_every, stands_at, place_of}

one-times : (n : ℕ) → 1 * n ≡ n
one-times n = omega arith

times-one : (n : ℕ) → n * 1 ≡ n
times-one n = omega arith

-- a number outside of a list is none of it
pub other : (x : ℕ) (xs : List ℕ) (i : ℕ) → not (list_any (λ y. x == y) xs) ≡ true → i < length xs → get_or xs i 0 ≡ x →
    ⊥
other x xs i e h same = go (list_any (λ y. x == y) xs) refl (stands_at x xs i h same) e
  where
    go : (b : Bool) → list_any (λ y. x == y) xs ≡ b → list_any (λ y. x == y) xs ≡ true → not b ≡ true → ⊥
    go true is stands f = cc
    go false is stands f = cc

pub none_of : (x : ℕ) (xs : List ℕ) → not (list_any (λ y. x == y) xs) ≡ true → list_any (λ y. x == y) xs ≡ false
none_of x xs e = go (list_any (λ y. x == y) xs) refl e
  where
    go : (b : Bool) → list_any (λ y. x == y) xs ≡ b → not b ≡ true → list_any (λ y. x == y) xs ≡ false
    go true is f = cc
    go false is f = is

-- one factor of a product
count_of-set : (shape : List ℕ) (d : ℕ) → d < length shape →
    count_of shape ≡ get_or shape d 0 * count_of (set shape d 1)
count_of-set [] d h = absurd (omega arith)
count_of-set (n ∷ shape) zero h = ap (λ m. n * m) (sym (one-times (count_of shape)))
count_of-set (n ∷ shape) (suc d) h =
    ap (λ m. n * m) (count_of-set shape d (omega arith))
    ∙ (sym (mul_assoc n (get_or shape d 0) (count_of (set shape d 1)))
    ∙ (ap (λ m. m * count_of (set shape d 1)) (mul_comm n (get_or shape d 0))
    ∙ mul_assoc (get_or shape d 0) n (count_of (set shape d 1))))

-- what is ordered of a tuple, another place of which is set
permuted-set : (places tuple : List ℕ) (d x : ℕ) → ((i : ℕ) → i < length places → get_or places i 0 ≡ d → ⊥) →
    permuted places (set tuple d x) ≡ permuted places tuple
permuted-set [] tuple d x ne = refl
permuted-set (p ∷ places) tuple d x ne = ap₂ (λ a b. a ∷ b) (get_or-set_other tuple d p x 0 (ne 0 (omega arith)))
    (permuted-set places tuple d x (λ i h. ne (suc i) (omega (arith, h))))

-- the lengths that are picked, and those that are not
ones : List ℕ → List ℕ → List ℕ
ones [] shape = shape
ones (p ∷ places) shape = ones places (set shape p 1)

count_of-ones : (places shape : List ℕ) → are_apart places ≡ true →
    ((i : ℕ) → i < length places → get_or places i 0 < length shape) →
    count_of shape ≡ count_of (permuted places shape) * count_of (ones places shape)
unfolding ones
count_of-ones [] shape apart below = sym (one-times (count_of shape))
count_of-ones (p ∷ places) shape apart below =
    let parts = and_parts (not (list_any (λ y. p == y) places)) (are_apart places) apart in
    let rest = count_of-ones places (set shape p 1) parts.1
    (λ i h. subst (λ n. get_or places i 0 < n) (sym (length-set shape p 1)) (below (suc i) (omega (arith, h)))) in
    count_of-set shape p (below 0 (omega arith))
    ∙ (ap (λ m. get_or shape p 0 * m) (rest ∙ ap (λ l. count_of l * count_of (ones places (set shape p 1)))
    (permuted-set places shape p 1 (λ i h same. other p places i parts.0 h same)))
    ∙ sym (mul_assoc (get_or shape p 0) (count_of (permuted places shape)) (count_of (ones places (set shape p 1)))))

length-ones : (places shape : List ℕ) → length (ones places shape) ≡ length shape
unfolding ones
length-ones [] shape = refl
length-ones (p ∷ places) shape = length-ones places (set shape p 1) ∙ length-set shape p 1

one_stays : (places shape : List ℕ) (d : ℕ) → d < length shape → get_or shape d 0 ≡ 1 →
    get_or (ones places shape) d 0 ≡ 1
unfolding ones
one_stays [] shape d h e = e
one_stays (p ∷ places) shape d h e =
    one_stays places (set shape p 1) d (subst (λ n. d < n) (sym (length-set shape p 1)) h) (go (d == p) refl)
  where
    go : (b : Bool) → (d == p) ≡ b → get_or (set shape p 1) d 0 ≡ 1
    go true is = subst (λ q. get_or (set shape q 1) d 0 ≡ 1) (eqb-true d p is) (get_or-set_same shape d 1 0 h)
    go false is = get_or-set_other shape p d 1 0 (λ same. let t : (d == p) ≡ true = eq-eqb d p same in cc) ∙ e

one_made : (places shape : List ℕ) (i : ℕ) → i < length places → get_or places i 0 < length shape →
    get_or (ones places shape) (get_or places i 0) 0 ≡ 1
unfolding ones
one_made [] shape i h low = absurd (omega arith)
one_made (p ∷ places) shape zero h low = one_stays places (set shape p 1) p
    (subst (λ n. p < n) (sym (length-set shape p 1)) low) (get_or-set_same shape p 1 0 low)
one_made (p ∷ places) shape (suc i) h low = one_made places (set shape p 1) i (omega arith)
    (subst (λ n. get_or places i 0 < n) (sym (length-set shape p 1)) low)

count_of-replicate : (n : ℕ) → count_of (replicate n 1) ≡ 1
count_of-replicate zero = refl
count_of-replicate (suc n) = one-times (count_of (replicate n 1)) ∙ count_of-replicate n

all_ones : (order shape : List ℕ) → is_order order ≡ true → length shape ≡ length order →
    ones order shape ≡ replicate (length shape) 1
all_ones order shape e long = ext_get_or 0 (ones order shape) (replicate (length shape) 1)
    (length-ones order shape ∙ sym (length-replicate (length shape) 1)) (λ d h.
    let low : d < length shape = subst (λ n. d < n) (length-ones order shape) h in
    let found = place_of d order (order_every order d e (subst (λ n. d < n) long low)) in
    ap (λ n. get_or (ones order shape) n 0) (sym found.2)
    ∙ (one_made order shape found.0 found.1 (subst (λ n. n < length shape) (sym found.2) low)
    ∙ sym (get_or-replicate (length shape) d 1 0 low)))

-- an order does not change how many elements a shape has
pub count_of-permuted : (order shape : List ℕ) → is_order order ≡ true → length shape ≡ length order →
    count_of (permuted order shape) ≡ count_of shape
count_of-permuted order shape e long =
    let apart = (and_parts (list_all (λ d. nat_lt d (length order)) order) (are_apart order) e).1 in
    let split =
    count_of-ones order shape apart (λ i h. subst (λ n. get_or order i 0 < n) (sym long) (order_below order i e h)) in
    let rest : count_of (ones order shape) ≡ 1 =
    ap count_of (all_ones order shape e long) ∙ count_of-replicate (length shape) in
    sym (split ∙ (ap (λ m. count_of (permuted order shape) * m) rest ∙ times-one (count_of (permuted order shape))))
