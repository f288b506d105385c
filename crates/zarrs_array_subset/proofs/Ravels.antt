-- Facts on places and counts, for the functions that go from tuples to places and back.
use Rattle.std.proofs.Common.{◌≡◌, ℕ, zero, suc, ◌+◌, ◌-◌, ◌*◌, ◌/◌, ◌%◌, ◌<◌, ◌≤◌, ◌^◌, true, nat_lt, List, [], ◌∷◌}
use Rattle.std.proofs.Common.{length, replicate, get_or, take, drop, ◌++◌, map, append_assoc, refl, sym, ap, ap₂, ◌∙◌}
use Rattle.std.proofs.Common.{subst, subst₂, arith}
use Rattle.std.proofs.lemmas.Bool.{and_parts, and_from, ltb-true, lt-ltb}
use Rattle.std.proofs.lemmas.Nat.{div-mul-add, mul-add-lt, div_below}
use Rattle.std.proofs.Math.Nat.{mod-lt, mul-le-mul_right, mul_comm, zero-mul}
use Rattle.std.proofs.lemmas.List.{take_all}
use Rattle.zarrs_array_subset.proofs.BoxLaws.{sizes_region}
use Rattle.zarr_model.specs.Region.{count, count_of, whole, tuple_at}
use Rattle.zarrs_array_subset.specs.Boxes.{region_of, is_box}
use Rattle.zarrs_array_subset.specs.Ravel.{count_front, place_front, is_below}

-- where an index is below its length, the rest's count and place are below the whole count
pub rest_fits : (n i c b : ℕ) → i < n → n * c < b → c < b
rest_fits n i c b less fit = let m : 1 * c ≤ n * c = mul-le-mul_right c (let one : 1 ≤ n = omega arith in one) in
    omega arith

pub place_below_front : (shape indices : List ℕ) → is_below shape indices ≡ true →
    place_front shape indices < count_front shape indices
place_below_front [] indices h = omega arith
place_below_front (n ∷ shape) [] h = omega arith
place_below_front (n ∷ shape) (i ∷ indices) h =
    let parts = and_parts (nat_lt i n) (is_below shape indices) h in
    let less : i < n = ltb-true _ _ parts.0 in
    subst (λ m. i * count_front shape indices + place_front shape indices < m) (mul_comm (count_front shape indices) n)
    (mul-add-lt i (count_front shape indices) (place_front shape indices) n less
    (place_below_front shape indices parts.1))

pub front_none : (shape indices : List ℕ) → length indices ≡ 0 →
    (is_below shape indices ≡ true) × (place_front shape indices ≡ 0) × (count_front shape indices ≡ 1)
front_none shape [] e = (go shape, go' shape, go'' shape)
  where
    go : (shape : List ℕ) → is_below shape [] ≡ true
    go [] = refl
    go (n ∷ shape) = refl

    go' : (shape : List ℕ) → place_front shape [] ≡ 0
    go' [] = refl
    go' (n ∷ shape) = refl

    go'' : (shape : List ℕ) → count_front shape [] ≡ 1
    go'' [] = refl
    go'' (n ∷ shape) = refl
front_none shape (i ∷ indices) e = absurd (omega arith)

-- what is added to a row's start is below the whole
pub sum_fits : (i n c m b : ℕ) → i < n → m < c → n * c < b → i * c + m < b
sum_fits i n c m b less below fit = let s : i * c + m < c * n = mul-add-lt i c m n less below in
    omega (arith, s, mul_comm c n)

pub ruleset of_fronts = (rest_fits, place_below_front, front_none, sum_fits)

-- a positive product has positive factors
pub factors : (n c : ℕ) → 0 < n * c → (0 < n) × (0 < c)
factors zero c h = absurd (omega (arith, zero-mul c))
factors (suc n) zero h = absurd (omega (arith, mul_comm (suc n) 0, zero-mul (suc n)))
factors (suc n) (suc c) h = (omega arith, omega arith)

pub rest_count : (n c : ℕ) → 0 < n * c → n * c / n ≡ c
rest_count n c h = let f : (0 < n) × (0 < c) = factors n c h in
    ap (λ m. m / n) (mul_comm n c ∙ sym (omega arith)) ∙ div-mul-add c n 0 f.0

pub count_region : (start shape : List ℕ) → is_box start shape ≡ true → count (region_of start shape) ≡ count_of shape
count_region start shape box = ap count_of (sizes_region start shape box)

-- a place below n rows of c is in some row
pub row_below : (k n c : ℕ) → k < n * c → (0 < n) × (0 < c) × (k / c < n) × (k % c < c)
row_below k n c h = let f : (0 < n) × (0 < c) = factors n c (omega arith) in
    (f.0, f.1, div_below k c n f.1 h, mod-lt k f.1)

pub tail_is : (x : ℕ) (xs : List ℕ) → take (length (x ∷ xs) - 1) (drop 1 (x ∷ xs)) ≡ xs
tail_is x xs = take_all (length (x ∷ xs) - 1) xs (omega arith)

pub head_fits : (shape indices : List ℕ) (count place b : ℕ) → 0 < length shape → 0 < length indices →
    get_or indices 0 0 < get_or shape 0 0 → count_front shape indices < b →
    (is_below (take (length shape - 1) (drop 1 shape)) (take (length indices - 1) (drop 1 indices)) ≡ true)
    × (place ≡ place_front (take (length shape - 1) (drop 1 shape)) (take (length indices - 1) (drop 1 indices)))
    × (count ≡ count_front (take (length shape - 1) (drop 1 shape)) (take (length indices - 1) (drop 1 indices))) →
    get_or indices 0 0 * count + place < b
head_fits [] indices count place b some some' less fit rest = absurd (omega arith)
head_fits (n ∷ shape) [] count place b some some' less fit rest = absurd (omega arith)
head_fits (n ∷ shape) (i ∷ indices) count place b some some' less fit rest =
    let e = rest.1 ∙ ap₂ place_front (tail_is n shape) (tail_is i indices) in
    let f = rest.2 ∙ ap₂ count_front (tail_is n shape) (tail_is i indices) in
    let h = ap₂ is_below (sym (tail_is n shape)) (sym (tail_is i indices)) ∙ rest.0 in
    subst₂ (λ c p. i * c + p < b) (sym f) (sym e) (sum_fits i n (count_front shape indices) (place_front shape indices)
    b less (place_below_front shape indices h) fit)

-- one more index, and then the tuple of the rest
pub push_step : (xs ys out start shape : List ℕ) (place count : ℕ) → is_box start shape ≡ true → 0 < length shape →
    count ≡ count_of shape → place < count →
    ys ≡ xs ++ (get_or start 0 0 + place / (count / get_or shape 0 0)) ∷ [] →
    out ≡ ys ++ tuple_at (region_of (take (length start - 1) (drop 1 start)) (take (length shape - 1) (drop 1 shape)))
    (place % (count / get_or shape 0 0)) →
    out ≡ xs ++ tuple_at (region_of start shape) place
push_step xs ys out start [] place count box long e below first rest = absurd (omega arith)
push_step xs ys out [] (n ∷ shape) place count box long e below first rest = cc
push_step xs ys out (s ∷ start) (n ∷ shape) place count box long e below first rest =
    let p = and_parts (nat_lt (s + n) (2 ^ 64)) (is_box start shape) box in
    let c : count / n ≡ count_of (map (λ span. span.size) (region_of start shape)) =
    ap (λ m. m / n) e ∙ rest_count n (count_of shape) (omega (arith, e)) ∙ sym (count_region start shape p.1) in
    rest ∙ ap₂ (λ a b. a ++ b) first
    (ap₂ (λ r m. tuple_at r (place % m)) (ap₂ region_of (tail_is s start) (tail_is n shape)) c)
    ∙ append_assoc xs ((s + place / (count / n)) ∷ []) _ ∙ ap (λ m. xs ++ (s + place / m)
    ∷ tuple_at (region_of start shape) (place % count_of (map (λ span. span.size) (region_of start shape)))) c

pub region_none : (start shape : List ℕ) → length shape ≡ 0 → region_of start shape ≡ []
region_none [] [] e = refl
region_none (s ∷ start) [] e = refl
region_none start (n ∷ shape) e = absurd (omega arith)

pub region_of_zeros : (shape : List ℕ) → region_of (replicate (length shape) 0) shape ≡ whole shape
region_of_zeros [] = refl
region_of_zeros (n ∷ shape) = ap (λ rest. record { start = 0; size = n } ∷ rest) (region_of_zeros shape)

pub zeros_box : (shape : List ℕ) → ((k : ℕ) → get_or shape k 0 < 2 ^ 64) →
    is_box (replicate (length shape) 0) shape ≡ true
zeros_box [] small = refl
zeros_box (n ∷ shape) small = let first : 0 + n < 2 ^ 64 = omega (arith, small 0) in
    and_from _ _ (lt-ltb _ _ first) (zeros_box shape (λ k. small (suc k)))

pub ruleset of_tuples = (rest_count, count_region, row_below)

pub ruleset of_zeros = (region_of_zeros, zeros_box)
