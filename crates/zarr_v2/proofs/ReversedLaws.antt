-- Tuples and shapes turned round.
use Rattle.std.proofs.Common.{◌≡◌, ◌∙◌, ap, ap₂, sym, refl, ℕ, zero, suc, ◌+◌, ◌-◌, ◌*◌, ◌<◌, ◌≤◌, true}
use Rattle.std.proofs.Common.{List, [], ◌∷◌, ◌++◌, length, take, reverse, get_or, arith}
use Rattle.std.specs.Prelude.{slice_index}
use Rattle.std.proofs.Math.Nat.{mul_comm, mul_assoc, add-mul}
use Rattle.std.proofs.lemmas.Nat.{mul-add-lt}
use Rattle.std.proofs.lemmas.List.{reverse-append, length-reverse, take_more, take_all}
use Rattle.std.proofs.lemmas.Bool.{and_parts}
use Rattle.zarr_model.specs.Prelude.{whole, count, count_of, place, contains, is_in, permuted}
use Rattle.zarr_model.proofs.RegionLaws.{count_whole, in_span}
use Rattle.zarr_v2.specs.ChunksV2.{column_place}
use Rattle.zarr_v2.specs.Translate.{reversed_order}

pub reverse_cons : {A : Type 0} (x : A) (xs : List A) → reverse (x ∷ xs) ≡ reverse xs ++ x ∷ []
reverse_cons x xs = reverse-append (x ∷ []) xs

-- the reversed order picks a list from its end
picks_front : (xs : List ℕ) (k : ℕ) → k ≤ length xs → permuted (reversed_order k) xs ≡ reverse (take k xs)
picks_front xs zero h = refl
picks_front xs (suc k) h =
    let less : k < length xs = omega arith in
    let next : suc k ≡ k + 1 = omega arith in
    ap (λ (rest : List ℕ). slice_index xs k ∷ rest) (picks_front xs k (omega arith))
    ∙ sym (ap (λ n. reverse (take n xs)) next
    ∙ (ap reverse (take_more xs k 0 less) ∙ reverse-append (take k xs) (get_or xs k 0 ∷ [])))

pub permuted_reversed : (xs : List ℕ) → permuted (reversed_order (length xs)) xs ≡ reverse xs
permuted_reversed xs = let all : length xs ≤ length xs = omega arith in
    picks_front xs (length xs) all ∙ ap reverse (take_all (length xs) xs all)

-- the same for a tuple of a rank
pub permuted_rank : (rank : ℕ) (xs : List ℕ) → length xs ≡ rank → permuted (reversed_order rank) xs ≡ reverse xs
permuted_rank rank xs is = ap (λ n. permuted (reversed_order n) xs) (sym is) ∙ permuted_reversed xs

-- counts and places with one more dimension at the end
count_behind : (shape : List ℕ) (n : ℕ) → count_of (shape ++ n ∷ []) ≡ count_of shape * n
count_behind [] n = let one : n * 1 ≡ 1 * n = mul_comm n 1 in one
count_behind (m ∷ shape) n = ap (λ c. m * c) (count_behind shape n) ∙ sym (mul_assoc m (count_of shape) n)

pub count_reversed : (shape : List ℕ) → count_of (reverse shape) ≡ count_of shape
count_reversed [] = refl
count_reversed (n ∷ shape) = ap count_of (reverse_cons n shape)
    ∙ (count_behind (reverse shape) n ∙ (ap (λ c. c * n) (count_reversed shape) ∙ mul_comm (count_of shape) n))

place_behind : (shape tuple : List ℕ) (n index : ℕ) → length tuple ≡ length shape →
    place (whole (shape ++ n ∷ [])) (tuple ++ index ∷ []) ≡ place (whole shape) tuple * n + index
place_behind [] [] n index h = let e : (index - 0) * 1 + 0 ≡ 0 * n + index = omega arith in e
place_behind [] (i ∷ tuple) n index h = let f : ⊥ = omega (arith, h) in absurd f
place_behind (m ∷ shape) [] n index h = let f : ⊥ = omega (arith, h) in absurd f
place_behind (m ∷ shape) (i ∷ tuple) n index h =
    let same : length tuple ≡ length shape = omega (arith, h) in
    let rest = place_behind shape tuple n index same in
    let c = count (whole shape) in
    let p = place (whole shape) tuple in
    let counts : count (whole (shape ++ n ∷ [])) ≡ c * n =
    count_whole (shape ++ n ∷ []) ∙ (count_behind shape n ∙ ap (λ (k : ℕ). k * n) (sym (count_whole shape))) in
    let first : (i - 0) * count (whole (shape ++ n ∷ [])) ≡ (i - 0) * c * n =
    ap (λ (k : ℕ). (i - 0) * k) counts ∙ sym (mul_assoc (i - 0) c n) in
    let split : ((i - 0) * c + p) * n ≡ (i - 0) * c * n + p * n = add-mul ((i - 0) * c) p n in
    omega (arith, rest, first, split)

-- the place of a reversed tuple is its number with the first dimension running fastest
pub place_reversed : (shape tuple : List ℕ) → length tuple ≡ length shape →
    place (whole (reverse shape)) (reverse tuple) ≡ column_place shape tuple
place_reversed [] [] h = refl
place_reversed [] (i ∷ tuple) h = let f : ⊥ = omega (arith, h) in absurd f
place_reversed (n ∷ shape) [] h = let f : ⊥ = omega (arith, h) in absurd f
place_reversed (n ∷ shape) (i ∷ tuple) h =
    let same : length tuple ≡ length shape = omega (arith, h) in
    let turned : length (reverse tuple) ≡ length (reverse shape) =
    length-reverse tuple ∙ (same ∙ sym (length-reverse shape)) in
    let rest = place_reversed shape tuple same in
    let swap : column_place shape tuple * n ≡ n * column_place shape tuple = mul_comm (column_place shape tuple) n in
    ap₂ (λ (s t : List ℕ). place (whole s) t) (reverse_cons n shape) (reverse_cons i tuple)
    ∙ (place_behind (reverse shape) (reverse tuple) n i turned
    ∙ (ap (λ (p : ℕ). p * n + i) rest ∙ (omega (arith, swap))))

-- and lies below the count
pub column_below : (shape tuple : List ℕ) → contains (whole shape) tuple ≡ true →
    column_place shape tuple < count_of shape
column_below [] tuple h = omega arith
column_below (n ∷ shape) [] h = cc
column_below (n ∷ shape) (i ∷ tuple) h =
    let parts = and_parts (is_in i (record { start = 0; size = n })) (contains (whole shape) tuple) h in
    let near = in_span i (record { start = 0; size = n }) parts.0 in
    let less : i < n = omega (arith, near.1) in
    let below = column_below shape tuple parts.1 in
    let product = mul-add-lt (column_place shape tuple) n i (count_of shape) below less in
    let swap : column_place shape tuple * n ≡ n * column_place shape tuple = mul_comm (column_place shape tuple) n in
    let turn : n * count_of shape ≡ count_of shape * n = mul_comm n (count_of shape) in
    omega (arith, product, swap, turn)

-- a tuple of a region has its rank
pub rank_of : (shape tuple : List ℕ) → contains (whole shape) tuple ≡ true → length tuple ≡ length shape
rank_of [] [] h = refl
rank_of [] (i ∷ tuple) h = cc
rank_of (n ∷ shape) [] h = cc
rank_of (n ∷ shape) (i ∷ tuple) h =
    ap suc
    (rank_of shape tuple (and_parts (is_in i (record { start = 0; size = n })) (contains (whole shape) tuple) h).1)
