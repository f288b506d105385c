-- Elements that stay neighbours while the dimensions before theirs are ordered anew.
use Rattle.std.proofs.Common.{◌≡◌, ℕ, zero, suc, ◌+◌, ◌-◌, ◌*◌, ◌<◌, ◌≤◌, List, [], ◌∷◌, ◌++◌, length, map, take, drop}
use Rattle.std.proofs.Common.{flat_map, nat_lt, arith, ap, ap₂, sym, refl, ◌∙◌, subst, take-add}
use Rattle.std.specs.List.{range_with_len}
use Rattle.std.proofs.lemmas.Bool.{cond-true, lt-ltb}
use Rattle.std.proofs.Math.Nat.{mul_assoc}
use Rattle.std.proofs.lemmas.List.Concat.{flat_map-append}
use Rattle.std.proofs.lemmas.List.{append-nil, length-map, ext_get_or, drop-drop}
use Rattle.std.proofs.lemmas.List.FromFn.{length-range_with_len, get_or-range_with_len}
use Rattle.zarr_model.specs.Region.{count, count_of, whole, tuples, tuple_at}
use Rattle.zarr_model.proofs.RegionLaws.{length-tuples, place-tuple_at, contains-tuple_at, count_whole}
use Rattle.zarrs_codec_slices.specs.Picking.{AllBelow, piece_of, picked_piece}
use Rattle.zarrs_codec_slices.proofs.LeafLaws.{below_rest}
use Rattle.zarrs_codec_slices.proofs.PieceLaws.{piece_ends}
use Rattle.zarr_codecs_elements.specs.Order.{row_major, dot}
use Rattle.zarr_codecs_elements.specs.Moved.{strided, in_runs}
use Rattle.zarr_codecs_elements.proofs.PlaceLaws.{place-dot, strided-dot, length-row_major, contains_at}
use Rattle.zarr_codecs_elements.proofs.MoveLaws.{at_number}

-- the row-major numbers of a shape are all in order
pub strided-whole : (shape : List ℕ) (from : ℕ) →
    strided shape (row_major shape) from ≡ range_with_len from (count_of shape)
strided-whole shape from =
    let f = λ (tuple : List ℕ). from + dot tuple (row_major shape) in
    strided-dot shape (row_major shape) from (length-row_major shape)
    ∙ ext_get_or 0 (map f (tuples (whole shape))) (range_with_len from (count_of shape))
    (length-map (tuples (whole shape)) f
    ∙ (length-tuples (whole shape) ∙ (count_whole shape ∙ sym (length-range_with_len from (count_of shape))))) (λ k h.
    let low : k < count (whole shape) =
    subst (λ n. k < n) (length-map (tuples (whole shape)) f ∙ length-tuples (whole shape)) h in
    let tuple : List ℕ = tuple_at (whole shape) k in
    at_number f (whole shape) k 0 low
    ∙ (ap (λ n. from + n) (sym (place-dot shape tuple
    (contains_at shape tuple (contains-tuple_at (whole shape) k low)).0) ∙ place-tuple_at (whole shape) k low)
    ∙ sym (get_or-range_with_len from (count_of shape) k 0 (subst (λ n. k < n) (count_whole shape) low))))

-- the last dimensions of a shape, behind the first ones
pub flat_map-flat_map : {A B C : Type 0} (f : B → List C) (g : A → List B) (xs : List A) →
    flat_map f (flat_map g xs) ≡ flat_map (λ x. flat_map f (g x)) xs
flat_map-flat_map f g [] = refl
flat_map-flat_map f g (x ∷ xs) =
    flat_map-append f (g x) (flat_map g xs) ∙ ap (λ l. flat_map f (g x) ++ l) (flat_map-flat_map f g xs)

pub flat_map_same : {A B : Type 0} (f g : A → List B) (xs : List A) → ((x : A) → f x ≡ g x) →
    flat_map f xs ≡ flat_map g xs
flat_map_same f g [] same = refl
flat_map_same f g (x ∷ xs) same = ap₂ (λ a b. a ++ b) (same x) (flat_map_same f g xs same)

pub strided-append : (first last steps more : List ℕ) (from : ℕ) → length steps ≡ length first → strided (first
    ++ last) (steps ++ more) from ≡ flat_map (λ place. strided last more place) (strided first steps from)
strided-append [] last [] more from long = sym (append-nil (strided last more from))
strided-append [] last (s ∷ steps) more from long = absurd (omega (arith, long))
strided-append (n ∷ first) last [] more from long = absurd (omega (arith, long))
strided-append (n ∷ first) last (s ∷ steps) more from long =
    flat_map_same (λ i. strided (first ++ last) (steps ++ more) (from + i * s)) (λ i.
    flat_map (λ place. strided last more place) (strided first steps (from + i * s))) (range_with_len 0 n)
    (λ i. strided-append first last steps more (from + i * s) (omega (arith, long)))
    ∙ sym (flat_map-flat_map (λ place. strided last more place)
    (λ i. strided first steps (from + i * s)) (range_with_len 0 n))

-- a run of pieces is one piece
pub run_of_pieces : (n k a : ℕ) (value : List ℕ) →
    flat_map (piece_of n value) (range_with_len a k) ≡ take (k * n) (drop (a * n) value)
run_of_pieces n zero a value = ap (λ m. take m (drop (a * n) value)) (let e : 0 ≡ 0 * n = omega arith in e)
run_of_pieces n (suc k) a value =
    ap (λ l. take n (drop (a * n) value) ++ l) (run_of_pieces n k (a + 1) value ∙ ap (take (k * n))
    (ap (λ m. drop m value) (let e : (a + 1) * n ≡ a * n + n = next a n in e) ∙ sym (drop-drop n (a * n) value)))
    ∙ (sym (take-add n (k * n) (drop (a * n) value))
    ∙ ap (λ m. take m (drop (a * n) value)) (let e : n + k * n ≡ suc k * n = omega arith in e))
  where
    next : (a n : ℕ) → (a + 1) * n ≡ a * n + n
    next a n = ap (λ m. m * n) (let e : a + 1 ≡ suc a = omega arith in e) ∙ (omega arith)

-- so runs are copied as elements that are so many times as long
pub runs_are_pieces : (n run : ℕ) (value places : List ℕ) →
    flat_map (piece_of (run * n) value) places ≡ flat_map (piece_of n value) (in_runs run places)
runs_are_pieces n run value places =
    flat_map_same (piece_of (run * n) value) (λ place. flat_map (piece_of n value) (range_with_len (place * run) run))
    places (λ place.
    ap (λ m. take (run * n) (drop m value)) (sym (mul_assoc place run n))
    ∙ sym (run_of_pieces n run (place * run) value))
    ∙ sym (flat_map-flat_map (piece_of n value) (λ place. range_with_len (place * run) run) places)

-- the elements that picks below the number of the first list name
pub picked_below : (n number : ℕ) (value picks : List ℕ) → AllBelow number picks →
    flat_map (picked_piece n number value value) picks ≡ flat_map (piece_of n value) picks
picked_below n number value [] all = refl
picked_below n number value (p ∷ picks) all =
    ap₂ (λ a b. a ++ b) (cond-true (nat_lt p number) (piece_of n value p) (piece_of n value (p - number)) (lt-ltb p
    number (all 0 (omega arith)))) (picked_below n number value picks (below_rest number p picks all))

below_both : (limit : ℕ) (xs ys : List ℕ) → AllBelow limit xs → AllBelow limit ys → AllBelow limit (xs ++ ys)
below_both limit [] ys first last k h = last k h
below_both limit (x ∷ xs) ys first last zero h = first 0 (omega arith)
below_both limit (x ∷ xs) ys first last (suc k) h =
    below_both limit xs ys (below_rest limit x xs first) last k (omega (arith, h))

range_below : (limit from n : ℕ) → from + n ≤ limit → AllBelow limit (range_with_len from n)
range_below limit from n fits = λ k h.
    let low : k < n = subst (λ m. k < m) (length-range_with_len from n) h in
    let is = get_or-range_with_len from n k 0 low in
    omega (arith, is, low, fits)

pub runs_below : (number run : ℕ) (runs : List ℕ) → AllBelow number runs → AllBelow (number * run) (in_runs run runs)
runs_below number run [] all = λ k h. absurd (omega arith)
runs_below number run (p ∷ runs) all =
    below_both (number * run) (range_with_len (p * run) run) (in_runs run runs)
    (range_below (number * run) (p * run) run (piece_ends p number run (number * run) (all 0 (omega arith)) refl))
    (runs_below number run runs (below_rest number p runs all))

pub long_of_runs : (size number run : ℕ) (value : List ℕ) → length value ≡ number * run * size →
    length value ≡ number * (run * size)
long_of_runs size number run value long = long ∙ mul_assoc number run size
