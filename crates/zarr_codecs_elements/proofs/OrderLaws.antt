-- Orders of dimensions: what is ordered can be put back.
use Rattle.std.proofs.Common.{◌≡◌, ℕ, zero, suc, ◌<◌, ◌≤◌, ◌==◌, Bool, true, false, not, ◌||◌, nat_lt, List, [], ◌∷◌}
use Rattle.std.proofs.Common.{length, set, get_or, replicate, arith, ap, sym, refl, ◌∙◌, subst, eqb-true, eq-eqb}
use Rattle.std.specs.List.{AllByRecursion, IsDistinct, list_all, list_any, range_with_len}
use Rattle.std.proofs.lemmas.Bool.{and_parts, and_from, ltb-true, lt-ltb}
use Rattle.std.proofs.lemmas.List.{length-set, length-map, length-replicate, get_or-map, get_or-set_same}
use Rattle.std.proofs.lemmas.List.{get_or-set_other, ext_get_or}
use Rattle.std.proofs.lemmas.List.FromFn.{length-range_with_len, get_or-range_with_len}
use Rattle.std.proofs.lemmas.Map.Steps.{length-le_from_distinct_below}
use Rattle.zarr_model.specs.Codec.{permuted}
use Rattle.zarr_codecs_elements.specs.Order.{are_apart, is_order, scattered, inverse}

-- a number is below a limit, as one of a list of such
below_at : (limit : ℕ) (xs : List ℕ) (i : ℕ) → list_all (λ d. nat_lt d limit) xs ≡ true → i < length xs →
    get_or xs i 0 < limit
below_at limit [] i all h = absurd (omega arith)
below_at limit (x ∷ xs) zero all h =
    ltb-true x limit (and_parts (nat_lt x limit) (list_all (λ d. nat_lt d limit) xs) all).0
below_at limit (x ∷ xs) (suc i) all h =
    below_at limit xs i (and_parts (nat_lt x limit) (list_all (λ d. nat_lt d limit) xs) all).1 (omega arith)

-- a number that stands in a list, or does not
pub stands_at : (x : ℕ) (xs : List ℕ) (i : ℕ) → i < length xs → get_or xs i 0 ≡ x → list_any (λ y. x == y) xs ≡ true
stands_at x [] i h e = absurd (omega arith)
stands_at x (y ∷ xs) zero h e =
    ap (λ b. b || list_any (λ z. x == z) xs) (let t : (x == y) ≡ true = eq-eqb x y (sym e) in t)
stands_at x (y ∷ xs) (suc i) h e = go (x == y) (stands_at x xs i (omega arith) e)
  where
    go : (b : Bool) → list_any (λ z. x == z) xs ≡ true → (b || list_any (λ z. x == z) xs) ≡ true
    go true rest = refl
    go false rest = rest

pub place_of : (x : ℕ) (xs : List ℕ) → list_any (λ y. x == y) xs ≡ true →
    (i : ℕ) × (i < length xs) × (get_or xs i 0 ≡ x)
place_of x [] e = cc
place_of x (y ∷ xs) e = go (x == y) refl (place_of x xs) e
  where
    go : (b : Bool) → (x == y) ≡ b →
        (list_any (λ z. x == z) xs ≡ true → (i : ℕ) × (i < length xs) × (get_or xs i 0 ≡ x)) →
        (b || list_any (λ z. x == z) xs) ≡ true → (i : ℕ) × (i < suc (length xs)) × (get_or (y ∷ xs) i 0 ≡ x)
    go true is rest e = (0, omega arith, sym (eqb-true x y is))
    go false is rest e = let found = rest e in (suc found.0, omega (arith, found.1), found.2)

-- no number stands twice, in the words of the library
apart_distinct : (xs : List ℕ) → are_apart xs ≡ true → IsDistinct (λ x y. x == y) xs
unfolding IsDistinct
apart_distinct [] e = tt
apart_distinct (x ∷ xs) e =
    let parts = and_parts (not (list_any (λ y. x == y) xs)) (are_apart xs) e in
    (none (list_any (λ y. x == y) xs) xs refl parts.0, apart_distinct xs parts.1)
  where
    all_none : (ys : List ℕ) → list_any (λ y. x == y) ys ≡ false → AllByRecursion (λ y. (x == y) ≡ false) ys
    all_none [] f = tt
    all_none (y ∷ ys) f = split (x == y) refl f (all_none ys)
      where
        split : (b : Bool) → (x == y) ≡ b → (b || list_any (λ z. x == z) ys) ≡ false →
            (list_any (λ z. x == z) ys ≡ false → AllByRecursion (λ z. (x == z) ≡ false) ys) →
            ((x == y) ≡ false) × AllByRecursion (λ z. (x == z) ≡ false) ys
        split true is f rest = cc
        split false is f rest = (is, rest f)

    none : (b : Bool) (ys : List ℕ) → list_any (λ y. x == y) ys ≡ b → not b ≡ true →
        AllByRecursion (λ y. (x == y) ≡ false) ys
    none true ys is e = cc
    none false ys is e = all_none ys is

-- what holds of each order: its numbers are below its length, and each one below that stands in it
pub order_below : (order : List ℕ) (i : ℕ) → is_order order ≡ true → i < length order → get_or order i 0 < length order
order_below order i e h =
    below_at (length order) order i (and_parts (list_all (λ d. nat_lt d (length order)) order) (are_apart order) e).0 h

pub order_every : (order : List ℕ) (d : ℕ) → is_order order ≡ true → d < length order →
    list_any (λ y. d == y) order ≡ true
order_every order d e h = go (list_any (λ y. d == y) order) refl
  where
    parts : (list_all (λ x. nat_lt x (length order)) order ≡ true) × (are_apart order ≡ true)
    parts = and_parts (list_all (λ x. nat_lt x (length order)) order) (are_apart order) e

    all_below : (q : ℕ) → list_any (λ y. q == y) (d ∷ order) ≡ true → q < length order
    all_below q f =
        let found = place_of q (d ∷ order) f in
        at found.0 found.1 found.2
      where
        at : (i : ℕ) → i < suc (length order) → get_or (d ∷ order) i 0 ≡ q → q < length order
        at zero l is = subst (λ n. n < length order) is h
        at (suc i) l is = subst (λ n. n < length order) is (below_at (length order) order i parts.0 (omega arith))

    go : (b : Bool) → list_any (λ y. d == y) order ≡ b → b ≡ true
    go true is = refl
    go false is =
        let more : are_apart (d ∷ order) ≡ true =
        and_from (not (list_any (λ y. d == y) order)) (are_apart order) (ap not is) parts.1 in
        let long : suc (length order) ≤ length order =
        length-le_from_distinct_below (d ∷ order) (length order) (apart_distinct (d ∷ order) more) all_below in
        absurd (omega (arith, long))

-- what stands at a place once values are put
pub length-scattered : (places values list : List ℕ) → length (scattered places values list) ≡ length list
length-scattered [] values list = refl
length-scattered (p ∷ places) [] list = refl
length-scattered (p ∷ places) (x ∷ values) list =
    length-set (scattered places values list) p x ∙ length-scattered places values list

pub scattered_else : (places values list : List ℕ) (d : ℕ) → list_any (λ y. d == y) places ≡ false →
    get_or (scattered places values list) d 0 ≡ get_or list d 0
scattered_else [] values list d e = refl
scattered_else (p ∷ places) [] list d e = refl
scattered_else (p ∷ places) (x ∷ values) list d e = go (d == p) refl (scattered_else places values list d) e
  where
    go : (b : Bool) → (d == p) ≡ b →
        (list_any (λ y. d == y) places ≡ false → get_or (scattered places values list) d 0 ≡ get_or list d 0) →
        (b || list_any (λ y. d == y) places) ≡ false →
        get_or (set (scattered places values list) p x) d 0 ≡ get_or list d 0
    go true is rest f = cc
    go false is rest f = get_or-set_other (scattered places values list) p d x 0
        (λ same. let t : (d == p) ≡ true = eq-eqb d p same in cc) ∙ rest f

-- by its number in a list without repeats
pub scattered_at : (places values list : List ℕ) (i : ℕ) → are_apart places ≡ true → length values ≡ length places →
    i < length places → get_or places i 0 < length list →
    get_or (scattered places values list) (get_or places i 0) 0 ≡ get_or values i 0
scattered_at [] values list i apart long h low = absurd (omega arith)
scattered_at (p ∷ places) [] list i apart long h low = absurd (omega (arith, long))
scattered_at (p ∷ places) (x ∷ values) list zero apart long h low =
    get_or-set_same (scattered places values list) p x 0
    (subst (λ n. p < n) (sym (length-scattered places values list)) low)
scattered_at (p ∷ places) (x ∷ values) list (suc i) apart long h low =
    let parts = and_parts (not (list_any (λ y. p == y) places)) (are_apart places) apart in
    get_or-set_other (scattered places values list) p (get_or places i 0) x 0
    (λ same. absurd (twice (list_any (λ y. p == y) places) refl (stands_at p places i (omega arith) same) parts.0))
    ∙ scattered_at places values list i parts.1 (omega (arith, long)) (omega arith) low
  where
    twice : (b : Bool) → list_any (λ y. p == y) places ≡ b → list_any (λ y. p == y) places ≡ true → not b ≡ true → ⊥
    twice true is stands e = cc
    twice false is stands e = cc

-- what is ordered, put back
pub length-permuted : (order tuple : List ℕ) → length (permuted order tuple) ≡ length order
length-permuted order tuple = length-map order (λ d. get_or tuple d 0)

pub permuted_at : (order tuple : List ℕ) (i : ℕ) → i < length order →
    get_or (permuted order tuple) i 0 ≡ get_or tuple (get_or order i 0) 0
permuted_at order tuple i h = get_or-map (λ d. get_or tuple d 0) order i 0 0 h

pub length-inverse : (order : List ℕ) → length (inverse order) ≡ length order
length-inverse order = length-scattered order (range_with_len 0 (length order)) (replicate (length order) 0)
    ∙ length-replicate (length order) 0

-- the number of a place, and the place of a number
pub inverse_of_at : (order : List ℕ) (i : ℕ) → is_order order ≡ true → i < length order →
    get_or (inverse order) (get_or order i 0) 0 ≡ i
inverse_of_at order i e h =
    scattered_at order (range_with_len 0 (length order)) (replicate (length order) 0) i (and_parts
    (list_all (λ d. nat_lt d (length order)) order) (are_apart order) e).1 (length-range_with_len 0 (length order)) h
    (subst (λ n. get_or order i 0 < n) (sym (length-replicate (length order) 0)) (order_below order i e h))
    ∙ (get_or-range_with_len 0 (length order) i 0 h ∙ (omega arith))

pub at_of_inverse : (order : List ℕ) (d : ℕ) → is_order order ≡ true → d < length order →
    (get_or (inverse order) d 0 < length order) × (get_or order (get_or (inverse order) d 0) 0 ≡ d)
at_of_inverse order d e h =
    let found = place_of d order (order_every order d e h) in
    let back : get_or (inverse order) d 0 ≡ found.0 =
    ap (λ n. get_or (inverse order) n 0) (sym found.2) ∙ inverse_of_at order found.0 e found.1 in
    (subst (λ n. n < length order) (sym back) found.1, ap (λ n. get_or order n 0) back ∙ found.2)

pub permuted_back : (order tuple : List ℕ) → is_order order ≡ true → length tuple ≡ length order →
    permuted (inverse order) (permuted order tuple) ≡ tuple
permuted_back order tuple e long =
    ext_get_or 0 (permuted (inverse order) (permuted order tuple)) tuple
    (length-permuted (inverse order) (permuted order tuple) ∙ (length-inverse order ∙ sym long)) (λ d h.
    let low : d < length order =
    subst (λ n. d < n) (length-permuted (inverse order) (permuted order tuple) ∙ length-inverse order) h in
    let at = at_of_inverse order d e low in
    permuted_at (inverse order) (permuted order tuple) d (subst (λ n. d < n) (sym (length-inverse order)) low)
    ∙ (permuted_at order tuple (get_or (inverse order) d 0) at.0 ∙ ap (λ n. get_or tuple n 0) at.1))

pub permuted_forth : (order tuple : List ℕ) → is_order order ≡ true → length tuple ≡ length order →
    permuted order (permuted (inverse order) tuple) ≡ tuple
permuted_forth order tuple e long =
    ext_get_or 0 (permuted order (permuted (inverse order) tuple)) tuple
    (length-permuted order (permuted (inverse order) tuple) ∙ sym long) (λ i h.
    let low : i < length order = subst (λ n. i < n) (length-permuted order (permuted (inverse order) tuple)) h in
    permuted_at order (permuted (inverse order) tuple) i low
    ∙ (permuted_at (inverse order) tuple (get_or order i 0)
    (subst (λ n. get_or order i 0 < n) (sym (length-inverse order)) (order_below order i e low))
    ∙ ap (λ n. get_or tuple n 0) (inverse_of_at order i e low)))

-- the inverse of an order is one
pub all_below_from : (limit : ℕ) (xs : List ℕ) → ((i : ℕ) → i < length xs → get_or xs i 0 < limit) →
    list_all (λ d. nat_lt d limit) xs ≡ true
all_below_from limit [] each = refl
all_below_from limit (x ∷ xs) each = and_from (nat_lt x limit) (list_all (λ d. nat_lt d limit) xs)
    (lt-ltb x limit (each 0 (omega arith))) (all_below_from limit xs (λ i h. each (suc i) (omega (arith, h))))

apart_from : (xs : List ℕ) → ((i j : ℕ) → i < j → j < length xs → get_or xs i 0 ≡ get_or xs j 0 → ⊥) →
    are_apart xs ≡ true
apart_from [] each = refl
apart_from (x ∷ xs) each = and_from (not (list_any (λ y. x == y) xs)) (are_apart xs) (none (list_any (λ y. x == y) xs)
    refl) (apart_from xs (λ i j a b. each (suc i) (suc j) (omega (arith, a)) (omega (arith, b))))
  where
    none : (b : Bool) → list_any (λ y. x == y) xs ≡ b → not b ≡ true
    none false is = refl
    none true is = let found = place_of x xs is in
        absurd (each 0 (suc found.0) (omega arith) (omega (arith, found.1)) (sym found.2))

pub inverse_order : (order : List ℕ) → is_order order ≡ true → is_order (inverse order) ≡ true
inverse_order order e =
    and_from (list_all (λ d. nat_lt d (length (inverse order))) (inverse order)) (are_apart (inverse order))
    (all_below_from (length (inverse order)) (inverse order) (λ d h.
    subst (λ n. get_or (inverse order) d 0 < n) (sym (length-inverse order)) (at_of_inverse order d e (short d h)).0))
    (apart_from (inverse order) (λ i j a b same.
    let j_short : j < length order = short j b in
    let i_short : i < length order = omega (arith, a, j_short) in
    let equal : i ≡ j =
    sym (at_of_inverse order i e i_short).1 ∙ (ap (λ n. get_or order n 0) same ∙ (at_of_inverse order j e j_short).1) in
    absurd (omega (arith, a, equal))))
  where
    short : (d : ℕ) → d < length (inverse order) → d < length order
    short d h = subst (λ n. d < n) (length-inverse order) h
