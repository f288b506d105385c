-- What loops over orders and shapes keep.
use Rattle.std.proofs.Common.{◌≡◌, ℕ, zero, suc, ◌+◌, ◌-◌, ◌*◌, ◌<◌, ◌≤◌, ◌==◌, Bool, true, false, not, ◌&&◌, ◌||◌}
use Rattle.std.proofs.Common.{nat_lt, List, [], ◌∷◌, ◌++◌, length, map, set, get_or, drop, take, flat_map}
use Rattle.std.proofs.Common.{arith, ap, ap₂, sym, refl, ◌∙◌, subst, eqb-true, eq-eqb, ◌^◌, Result, Ok, Err, IfOk}
use Rattle.std.specs.List.{list_all, list_any, range_with_len}
use Rattle.std.proofs.lemmas.Bool.{and_parts, and_from, lt-ltb}
use Rattle.std.proofs.lemmas.Bool.Decides.{nat_tests}
use Rattle.std.proofs.lemmas.List.{drop_more, append_assoc, append-nil, length-set, length-map}
use Rattle.std.proofs.lemmas.List.{get_or-set_same, get_or-set_other, get_or-take, length-take-le}
use Rattle.std.proofs.lemmas.List.{take_more, take_all}
use Rattle.std.proofs.lemmas.List.Folds.{list_any_more, list_all_more, list_any-append}
use Rattle.std.proofs.Math.Nat.{add-mul, le-mul_of_pos_right, mul_comm}
use Rattle.std.proofs.lemmas.List.Concat.{flat_map_single}
use Rattle.zarrs_codec_traits.specs.Prelude.{count_of, whole, contains, permuted, AllBelow}
use Rattle.zarr_codecs_elements.specs.Order.{are_apart, is_order, scattered, dot}
use Rattle.zarr_codecs_elements.specs.Moved.{strided, moved_steps}
use Rattle.zarr_codecs_elements.proofs.OrderLaws.{order_below, place_of}
use Rattle.zarr_codecs_elements.proofs.CountLaws.{other, none_of, count_of-permuted}
use Rattle.zarr_codecs_elements.proofs.PlaceLaws.{place-steps, contains_from, contains-permuted}
use Rattle.zarr_model.proofs.RegionLaws.{count_whole, place_below}

-- the numbers of an order are below its length
pub all_below : (order : List ℕ) (n : ℕ) → is_order order ≡ true → n ≡ length order → AllBelow n order
all_below order n e same = λ k h. subst (λ m. get_or order k 0 < m) (sym same) (order_below order k e h)

-- one more place, the last one first
back_one : (order : List ℕ) (next : ℕ) → 0 < next → next ≤ length order →
    drop (next - 1) order ≡ get_or order (next - 1) 0 ∷ drop next order
back_one order next some within =
    drop_more order (next - 1) 0 (omega arith)
    ∙ ap (λ n. get_or order (next - 1) 0 ∷ drop n order) (let e : next - 1 + 1 ≡ next = omega arith in e)

range_back : (next end : ℕ) → 0 < next → next ≤ end →
    range_with_len (next - 1) (end - (next - 1)) ≡ (next - 1) ∷ range_with_len next (end - next)
range_back next end some within =
    ap (range_with_len (next - 1)) (let e : end - (next - 1) ≡ suc (end - next) = omega arith in e)
    ∙ ap (λ n. (next - 1) ∷ range_with_len n (end - next)) (let e : next - 1 + 1 ≡ next = omega arith in e)

pub one_place : (order places start : List ℕ) (next : ℕ) → 0 < next → next ≤ length order →
    places ≡ scattered (drop next order) (range_with_len next (length order - next)) start →
    set places (get_or order (next - 1) 0) (next - 1) ≡
    scattered (drop (next - 1) order) (range_with_len (next - 1) (length order - (next - 1))) start
one_place order places start next some within e =
    ap (λ l. set l (get_or order (next - 1) 0) (next - 1)) e
    ∙ sym (ap₂ (λ a b. scattered a b start) (back_one order next some within)
    (range_back next (length order) some within))

-- what is counted fits
pub positive_parts : (n k : ℕ) → 0 < n * k → (0 < n) × (0 < k)
positive_parts zero k h = absurd (omega arith)
positive_parts (suc n) zero h = absurd (let none : suc n * 0 ≡ 0 = omega arith in omega (arith, none, h))
positive_parts (suc n) (suc k) h = (omega arith, omega arith)

drop_count : (shape : List ℕ) (k : ℕ) → 0 < count_of shape → count_of (drop k shape) ≤ count_of shape
drop_count shape zero h = omega arith
drop_count [] (suc k) h = omega arith
drop_count (n ∷ shape) (suc k) h =
    let parts = positive_parts n (count_of shape) h in
    let rest = drop_count shape k parts.1 in
    let more : count_of shape ≤ count_of shape * n = le-mul_of_pos_right (count_of shape) parts.0 in
    omega (arith, rest, more, mul_comm n (count_of shape))

drop_permuted : (order shape : List ℕ) (k : ℕ) → permuted (drop k order) shape ≡ drop k (permuted order shape)
drop_permuted order shape zero = refl
drop_permuted [] shape (suc k) = refl
drop_permuted (d ∷ order) shape (suc k) = drop_permuted order shape k

pub parts_fit : (order shape : List ℕ) → is_order order ≡ true → length shape ≡ length order → 0 < count_of shape →
    count_of shape < 2 ^ 64 → (k : ℕ) → count_of (permuted (drop k order) shape) < 2 ^ 64
parts_fit order shape e long some fits k =
    let all : count_of (permuted order shape) ≡ count_of shape = count_of-permuted order shape e long in
    let part = drop_count (permuted order shape) k (subst (λ n. 0 < n) (sym all) some) in
    let same : count_of (permuted (drop k order) shape) ≡ count_of (drop k (permuted order shape)) =
    ap count_of (drop_permuted order shape k) in
    omega (arith, all, part, same, fits)

-- the greatest of the numbers over a shape is the place of its last tuple
last_inside : (shape : List ℕ) → 0 < count_of shape → contains (whole shape) (map (λ n. n - 1) shape) ≡ true
last_inside shape h = contains_from shape (map (λ n. n - 1) shape) (length-map shape (λ n. n - 1)) (each shape h)
  where
    each : (shape : List ℕ) → 0 < count_of shape → (i : ℕ) → i < length shape →
        get_or (map (λ n. n - 1) shape) i 0 < get_or shape i 0
    each [] h i l = absurd (omega arith)
    each (n ∷ shape) h zero l = let parts = positive_parts n (count_of shape) h in omega (arith, parts.0)
    each (n ∷ shape) h (suc i) l = each shape (positive_parts n (count_of shape) h).1 i (omega arith)

pub greatest_below : (order shape steps : List ℕ) → is_order order ≡ true → length shape ≡ length order →
    0 < count_of shape → steps ≡ moved_steps order shape →
    0 + dot (map (λ n. n - 1) shape) steps < count_of shape
greatest_below order shape steps e long some are =
    let last : List ℕ = map (λ n. n - 1) shape in
    let inside = last_inside shape some in
    let at = place-steps order shape last e long (length-map shape (λ n. n - 1)) in
    let below = place_below (whole (permuted order shape)) (permuted order last)
    (contains-permuted order shape last e long inside) in
    let counted : count_of (permuted order shape) ≡ count_of shape = count_of-permuted order shape e long in
    let all = count_whole (permuted order shape) in
    let same : dot last steps ≡ dot last (moved_steps order shape) = ap (dot last) are in
    omega (arith, at, below, counted, all, same)

pub greatest_fits : (order shape steps : List ℕ) → is_order order ≡ true → length shape ≡ length order →
    0 < count_of shape → count_of shape < 2 ^ 64 → steps ≡ moved_steps order shape →
    0 + dot (map (λ n. n - 1) shape) steps < 2 ^ 64
greatest_fits order shape steps e long some fits are =
    omega (arith, greatest_below order shape steps e long some are, fits)

-- a run of numbers
pub run_below : (limit from len step i : ℕ) → i < len → from + (len - 1) * step < limit → from + i * step < limit
run_below limit from len step i h fits =
    let grown = add-mul (len - 1 - i) i step in
    let same : (len - 1) * step ≡ (len - 1 - i + i) * step =
    ap (λ n. n * step) (let e : len - 1 ≡ len - 1 - i + i = omega arith in e) in
    omega (arith, grown, same, fits)

pub one_more : {A : Type 0} (f : ℕ → A) (out all : List A) (i len : ℕ) → i < len →
    out ++ map f (range_with_len i (len - i)) ≡ all →
    (out ++ f i ∷ []) ++ map f (range_with_len (i + 1) (len - (i + 1))) ≡ all
one_more f out all i len h e =
    append_assoc out (f i ∷ []) (map f (range_with_len (i + 1) (len - (i + 1))))
    ∙ (ap (λ n. out ++ map f (range_with_len i n)) (let same : suc (len - (i + 1)) ≡ len - i = omega (arith, h) in same)
    ∙ e)

-- a part of a shape after another
pub next_part : (f : ℕ → List ℕ) (out new all : List ℕ) (i len : ℕ) → i < len → new ≡ out ++ f i →
    out ++ flat_map f (range_with_len i (len - i)) ≡ all →
    new ++ flat_map f (range_with_len (i + 1) (len - (i + 1))) ≡ all
next_part f out new all i len h is e =
    ap (λ l. l ++ flat_map f (range_with_len (i + 1) (len - (i + 1)))) is
    ∙ (append_assoc out (f i) (flat_map f (range_with_len (i + 1) (len - (i + 1))))
    ∙ (ap (λ n. out ++ flat_map f (range_with_len i n))
    (let same : suc (len - (i + 1)) ≡ len - i = omega (arith, h) in same) ∙ e))

pub no_part : (f : ℕ → List ℕ) (out all : List ℕ) (i len : ℕ) → len ≤ i →
    out ++ flat_map f (range_with_len i (len - i)) ≡ all → out ≡ all
no_part f out all i len h e = sym (append-nil out)
    ∙ (ap (λ n. out ++ flat_map f (range_with_len i n)) (let none : 0 ≡ len - i = omega (arith, h) in none) ∙ e)

pub last_part : (len step from : ℕ) (rest steps : List ℕ) → length rest ≡ 0 →
    map (λ i. from + i * step) (range_with_len 0 len) ≡ strided (len ∷ rest) (step ∷ steps) from
last_part len step from [] steps e = sym (flat_map_single (λ i. from + i * step) (range_with_len 0 len))
last_part len step from (n ∷ rest) steps e = absurd (omega (arith, e))

-- the numbers that were met
pub record AreSeen (i : ℕ) (order : List ℕ) (seen : List Bool) : Type 0 where
  pub long : length seen ≡ length order
  pub each : (d : ℕ) → d < length order → get_or seen d false ≡ list_any (λ y. d == y) (take i order)
  pub below : list_all (λ d. nat_lt d (length order)) (take i order) ≡ true
  pub apart : are_apart (take i order) ≡ true

pub apart_at : (xs : List ℕ) (i j : ℕ) → are_apart xs ≡ true → i < j → j < length xs → get_or xs i 0 ≡ get_or xs j 0 → ⊥
apart_at [] i j e a b same = absurd (omega arith)
apart_at (x ∷ xs) i zero e a b same = absurd (omega arith)
apart_at (x ∷ xs) zero (suc j) e a b same =
    other x xs j (and_parts (not (list_any (λ y. x == y) xs)) (are_apart xs) e).0 (omega arith) (sym same)
apart_at (x ∷ xs) (suc i) (suc j) e a b same =
    apart_at xs i j (and_parts (not (list_any (λ y. x == y) xs)) (are_apart xs) e).1 (omega arith) (omega arith) same

-- a number that was met before stands twice
pub seen_again : (order : List ℕ) (seen : List Bool) (i : ℕ) → AreSeen i order seen → i < length order →
    get_or order i 0 < length seen → get_or seen (get_or order i 0) false ≡ true → false ≡ is_order order
seen_again order seen i are h low again = go (is_order order) refl
  where
    twice : are_apart order ≡ true → ⊥
    twice apart =
        let met : list_any (λ y. get_or order i 0 == y) (take i order) ≡ true =
        sym (are.each (get_or order i 0) (subst (λ n. get_or order i 0 < n) are.long low)) ∙ again in
        let found = place_of (get_or order i 0) (take i order) met in
        let short : found.0 < i = omega (arith, found.1, length-take-le i order (omega (arith, h))) in
        apart_at order found.0 i apart short h (sym (get_or-take i order found.0 0 short) ∙ found.2)

    go : (b : Bool) → is_order order ≡ b → false ≡ is_order order
    go false is = sym is
    go true is = absurd (twice (and_parts (list_all (λ d. nat_lt d (length order)) order) (are_apart order) is).1)

-- one that was not is one more
apart_push : (xs : List ℕ) (x : ℕ) → are_apart xs ≡ true → list_any (λ y. x == y) xs ≡ false →
    are_apart (xs ++ x ∷ []) ≡ true
apart_push [] x e none = refl
apart_push (y ∷ xs) x e none = split (x == y) refl none (apart_push xs x parts.1)
  where
    parts : (not (list_any (λ z. y == z) xs) ≡ true) × (are_apart xs ≡ true)
    parts = and_parts (not (list_any (λ z. y == z) xs)) (are_apart xs) e

    turned : (x == y) ≡ false → (y == x) ≡ false
    turned f = grind (arith, nat_tests)

    front : (b : Bool) → (y == x) ≡ b → (y == x) ≡ false → not (list_any (λ z. y == z) (xs ++ x ∷ [])) ≡ true
    front b is f =
        ap not (list_any-append (λ z. y == z) xs (x ∷ []) ∙ (ap₂ (λ a c. a || (c || false)) (none_of y xs parts.0) f))

    split : (b : Bool) → (x == y) ≡ b → (b || list_any (λ z. x == z) xs) ≡ false →
        (list_any (λ z. x == z) xs ≡ false → are_apart (xs ++ x ∷ []) ≡ true) →
        (not (list_any (λ z. y == z) (xs ++ x ∷ [])) && are_apart (xs ++ x ∷ [])) ≡ true
    split true is f rest = cc
    split false is f rest = and_from (not (list_any (λ z. y == z) (xs ++ x ∷ []))) (are_apart (xs ++ x ∷ []))
        (front (y == x) refl (turned is)) (rest f)

pub one_seen : (order : List ℕ) (seen : List Bool) (i : ℕ) → AreSeen i order seen → i < length order →
    get_or order i 0 < length seen → get_or seen (get_or order i 0) false ≡ false →
    AreSeen (i + 1) order (set seen (get_or order i 0) true)
one_seen order seen i are h low new =
    let x : ℕ = get_or order i 0 in
    let few : x < length order = subst (λ n. x < n) are.long low in
    let unmet : list_any (λ y. x == y) (take i order) ≡ false = sym (are.each x few) ∙ new in
    record {
      long = length-set seen x true ∙ are.long;
      each = λ d l. sym (list_any_more (λ y. d == y) order i 0 h ∙ go d (d == x) refl l);
      below = list_all_more (λ d. nat_lt d (length order)) order i 0 h
          ∙ ap₂ (λ a b. a && b) are.below (lt-ltb x (length order) few);
      apart = ap are_apart (take_more order i 0 h) ∙ apart_push (take i order) x are.apart unmet;
    }
  where
    go : (d : ℕ) (b : Bool) → (d == get_or order i 0) ≡ b → d < length order → (list_any (λ y. d == y) (take i order)
        || (d == get_or order i 0)) ≡ get_or (set seen (get_or order i 0) true) d false
    go d true is l =
        ap (λ b. list_any (λ y. d == y) (take i order) || b) is
        ∙ (any_true (list_any (λ y. d == y) (take i order))
        ∙ sym (ap (λ n. get_or (set seen (get_or order i 0) true) n false) (eqb-true d (get_or order i 0) is)
        ∙ get_or-set_same seen (get_or order i 0) true false low))
      where
        any_true : (b : Bool) → (b || true) ≡ true
        any_true true = refl
        any_true false = refl
    go d false is l =
        ap (λ b. list_any (λ y. d == y) (take i order) || b) is
        ∙ (any_false (list_any (λ y. d == y) (take i order))
        ∙ (sym (are.each d l) ∙ sym (get_or-set_other seen (get_or order i 0) d true false
        (λ same. let t : (d == get_or order i 0) ≡ true = eq-eqb d (get_or order i 0) same in cc))))
      where
        any_false : (b : Bool) → (b || false) ≡ b
        any_false true = refl
        any_false false = refl

-- the last dimension of a shape
pub split_first : (xs : List ℕ) → 0 < length xs → xs ≡ get_or xs 0 0 ∷ take (length xs - 1) (drop 1 xs)
split_first [] h = absurd (omega arith)
split_first (x ∷ xs) h = ap (λ l. x ∷ l) (sym (take_all (length (x ∷ xs) - 1) xs (omega arith)))

pub run_is : {T E : Type 0} (r : Result T E) (shape steps old new : List ℕ) (from : ℕ) → 0 < length shape →
    0 < length steps → length (take (length shape - 1) (drop 1 shape)) ≡ 0 →
    IfOk r (λ _. new ≡ old ++ map (λ i. from + i * get_or steps 0 0) (range_with_len 0 (get_or shape 0 0))) →
    IfOk r (λ _. new ≡ old ++ strided shape steps from)
run_is (Err e) shape steps old new from some has none is = tt
run_is (Ok v) shape steps old new from some has none is =
    is ∙ ap (λ l. old ++ l) (last_part (get_or shape 0 0) (get_or steps 0 0) from
    (take (length shape - 1) (drop 1 shape)) (take (length steps - 1) (drop 1 steps)) none
    ∙ sym (ap₂ (λ a b. strided a b from) (split_first shape some) (split_first steps has)))
