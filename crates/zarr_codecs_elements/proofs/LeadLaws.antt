-- Orders that leave the last dimensions in place.
use Rattle.std.proofs.Common.{◌≡◌, ℕ, zero, suc, ◌+◌, ◌-◌, ◌*◌, ◌<◌, ◌≤◌, ◌==◌, Bool, true, false, not, ◌||◌, nat_lt}
use Rattle.std.proofs.Common.{List, [], ◌∷◌, ◌++◌, length, map, set, get_or, replicate, flat_map, arith, ap, ap₂, sym}
use Rattle.std.proofs.Common.{refl, ◌∙◌, subst, inl, inr, ◌⊎◌}
use Rattle.std.specs.List.{list_all, list_any, range_with_len}
use Rattle.std.proofs.lemmas.Bool.{and_parts, and_from, cases_lt}
use Rattle.std.proofs.lemmas.List.{append_assoc, length-append, length-map, length-replicate, map-append, map-set}
use Rattle.std.proofs.lemmas.List.{get_or_append_left, get_or-append_right}
use Rattle.std.proofs.Math.Nat.{add-mul, mul_assoc}
use Rattle.std.proofs.lemmas.List.Folds.{list_any-append, flat_map-map}
use Rattle.std.proofs.lemmas.List.FromFn.{length-range_with_len, get_or-range_with_len}
use Rattle.zarrs_codec_traits.specs.Prelude.{count_of, permuted}
use Rattle.zarr_codecs_elements.specs.Order.{are_apart, is_order, scattered, row_major}
use Rattle.zarr_codecs_elements.specs.Moved.{moved_places, strided, moved_steps, in_runs}
use Rattle.zarr_codecs_elements.proofs.OrderLaws.{all_below_from, order_below, length-permuted, length-scattered}
use Rattle.zarr_codecs_elements.proofs.LoopLaws.{apart_at}
use Rattle.zarr_codecs_elements.proofs.PlaceLaws.{length-row_major, moved-strided}
use Rattle.zarr_codecs_elements.proofs.RunLaws.{strided-whole, strided-append, flat_map_same}

-- the first numbers of such an order are one
apart_front : (xs ys : List ℕ) → are_apart (xs ++ ys) ≡ true → are_apart xs ≡ true
apart_front [] ys e = refl
apart_front (x ∷ xs) ys e =
    let parts = and_parts (not (list_any (λ y. x == y) (xs ++ ys))) (are_apart (xs ++ ys)) e in
    and_from (not (list_any (λ y. x == y) xs)) (are_apart xs) (front (list_any (λ y. x == y) xs) (list_any (λ y.
    x == y) ys) (ap not (sym (list_any-append (λ y. x == y) xs ys)) ∙ parts.0)) (apart_front xs ys parts.1)
  where
    front : (a b : Bool) → not (a || b) ≡ true → not a ≡ true
    front true b e = cc
    front false b e = refl

module _ (first : List ℕ) (more : ℕ) (e : is_order (first ++ range_with_len (length first) more) ≡ true) where
  abbrev whole_order : List ℕ
  whole_order = first ++ range_with_len (length first) more

  whole_long : length whole_order ≡ length first + more
  whole_long = length-append first (range_with_len (length first) more)
      ∙ ap (λ n. length first + n) (length-range_with_len (length first) more)

  whole_apart : are_apart whole_order ≡ true
  whole_apart = (and_parts (list_all (λ d. nat_lt d (length whole_order)) whole_order) (are_apart whole_order) e).1

  first_low : (i : ℕ) → i < length first → get_or first i 0 < length first
  first_low i h = go (cases_lt (get_or first i 0) (length first))
    where
      here : get_or whole_order i 0 ≡ get_or first i 0
      here = get_or_append_left first (range_with_len (length first) more) 0 i h

      go : (get_or first i 0 < length first) ⊎ (length first ≤ get_or first i 0) → get_or first i 0 < length first
      go (inl low) = low
      go (inr high) =
          let d : ℕ = get_or first i 0 in
          let low : d < length first + more = subst (λ n. n < length first + more) here (subst (λ n.
          get_or whole_order i 0 < n) whole_long (order_below whole_order i e (omega (arith, whole_long, h)))) in
          let stays : get_or whole_order d 0 ≡ d =
          get_or-append_right first (range_with_len (length first) more) (length first) d 0 refl high
          ∙ (get_or-range_with_len (length first) more (d - length first) 0 (omega (arith, low, high))
          ∙ (omega (arith, high))) in
          absurd (apart_at whole_order i d whole_apart (omega (arith, h, high)) (omega (arith, whole_long, low))
          (here ∙ sym stays))

  pub first_order : is_order first ≡ true
  first_order = and_from (list_all (λ d. nat_lt d (length first)) first) (are_apart first) (all_below_from
      (length first) first first_low) (apart_front first (range_with_len (length first) more) whole_apart)

-- counts and steps of a shape in two parts
pub count_both : (first last : List ℕ) → count_of (first ++ last) ≡ count_of first * count_of last
count_both [] last = omega arith
count_both (n ∷ first) last =
    ap (λ m. n * m) (count_both first last) ∙ sym (mul_assoc n (count_of first) (count_of last))

row_major-append : (first last : List ℕ) →
    row_major (first ++ last) ≡ map (λ s. s * count_of last) (row_major first) ++ row_major last
row_major-append [] last = refl
row_major-append (n ∷ first) last = ap₂ (λ a b. a ∷ b) (count_both first last) (row_major-append first last)

-- values put at places of two parts
scattered-append : (places others values rest list : List ℕ) → length values ≡ length places →
    scattered (places ++ others) (values ++ rest) list ≡ scattered places values (scattered others rest list)
scattered-append [] others [] rest list e = refl
scattered-append [] others (x ∷ values) rest list e = absurd (omega (arith, e))
scattered-append (p ∷ places) others [] rest list e = absurd (omega (arith, e))
scattered-append (p ∷ places) others (x ∷ values) rest list e =
    ap (λ l. set l p x) (scattered-append places others values rest list (omega (arith, e)))

scattered-behind : (front values : List ℕ) → scattered (range_with_len (length front) (length values)) values
    (front ++ replicate (length values) 0) ≡ front ++ values
scattered-behind front [] = refl
scattered-behind front (x ∷ values) =
    let longer : length (front ++ 0 ∷ []) ≡ length front + 1 = length-append front (0 ∷ []) in
    let rest : scattered (range_with_len (length front + 1) (length values)) values
    (front ++ 0 ∷ replicate (length values) 0) ≡ front ++ 0 ∷ values =
    ap₂ (λ n l. scattered (range_with_len n (length values)) values l) (sym longer)
    (sym (append_assoc front (0 ∷ []) (replicate (length values) 0)))
    ∙ (scattered-behind (front ++ 0 ∷ []) values ∙ append_assoc front (0 ∷ []) values) in
    ap (λ l. set l (length front) x) rest ∙ put front 0 x values
  where
    put : (front : List ℕ) (y x : ℕ) (rest : List ℕ) → set (front ++ y ∷ rest) (length front) x ≡ front ++ x ∷ rest
    put [] y x rest = refl
    put (z ∷ front) y x rest = ap (λ l. z ∷ l) (put front y x rest)

scattered-front : (places values list behind : List ℕ) → ((i : ℕ) → i < length places →
    get_or places i 0 < length list) → scattered places values (list ++ behind) ≡ scattered places values list ++ behind
scattered-front [] values list behind low = refl
scattered-front (p ∷ places) [] list behind low = refl
scattered-front (p ∷ places) (x ∷ values) list behind low =
    ap (λ l. set l p x) (scattered-front places values list behind (λ i h. low (suc i) (omega (arith, h))))
    ∙ put (scattered places values list) p x
    (subst (λ n. p < n) (sym (length-scattered places values list)) (low 0 (omega arith)))
  where
    put : (xs : List ℕ) (p x : ℕ) → p < length xs → set (xs ++ behind) p x ≡ set xs p x ++ behind
    put [] p x h = absurd (omega arith)
    put (y ∷ xs) zero x h = refl
    put (y ∷ xs) (suc p) x h = ap (λ l. y ∷ l) (put xs p x (omega arith))

scattered-map : (f : ℕ → ℕ) (places values list : List ℕ) →
    scattered places (map f values) (map f list) ≡ map f (scattered places values list)
scattered-map f [] values list = refl
scattered-map f (p ∷ places) [] list = refl
scattered-map f (p ∷ places) (x ∷ values) list =
    ap (λ l. set l p (f x)) (scattered-map f places values list) ∙ sym (map-set f (scattered places values list) p x)

zeros_times : (n run : ℕ) → map (λ s. s * run) (replicate n 0) ≡ replicate n 0
zeros_times zero run = refl
zeros_times (suc n) run = ap₂ (λ a b. a ∷ b) (let e : 0 * run ≡ 0 = omega arith in e) (zeros_times n run)

zeros_both : (a b : ℕ) → replicate {A = ℕ} (a + b) 0 ≡ replicate a 0 ++ replicate b 0
zeros_both zero b = ap (λ n. replicate n 0) (let e : 0 + b ≡ b = omega arith in e)
zeros_both (suc a) b =
    ap (λ n. replicate n 0) (let e : suc a + b ≡ suc (a + b) = omega arith in e) ∙ ap (λ l. 0 ∷ l) (zeros_both a b)

-- what is ordered of a shape in two parts
permuted-append : (places others tuple : List ℕ) →
    permuted (places ++ others) tuple ≡ permuted places tuple ++ permuted others tuple
permuted-append places others tuple = map-append (λ d. get_or tuple d 0) places others

permuted-front : (places front behind : List ℕ) → ((i : ℕ) → i < length places → get_or places i 0 < length front) →
    permuted places (front ++ behind) ≡ permuted places front
permuted-front [] front behind low = refl
permuted-front (p ∷ places) front behind low = ap₂ (λ a b. a ∷ b) (get_or_append_left front behind 0 p
    (low 0 (omega arith))) (permuted-front places front behind (λ i h. low (suc i) (omega (arith, h))))

permuted-behind : (front behind : List ℕ) →
    permuted (range_with_len (length front) (length behind)) (front ++ behind) ≡ behind
permuted-behind front [] = refl
permuted-behind front (x ∷ behind) =
    ap₂ (λ a b. a ∷ b) (get_or-append_right front (x ∷ behind) (length front) (length front) 0 refl (omega arith)
    ∙ ap (λ n. get_or (x ∷ behind) n 0) (let e : length front - length front ≡ 0 = omega arith in e))
    (ap₂ (λ n l. permuted (range_with_len n (length behind)) l) (sym (length-append front (x ∷ [])))
    (sym (append_assoc front (x ∷ []) behind)) ∙ permuted-behind (front ++ x ∷ []) behind)

-- numbers whose steps are all a multiple
strided-times : (run : ℕ) (shape steps : List ℕ) (from : ℕ) → length steps ≡ length shape →
    strided shape (map (λ s. s * run) steps) (from * run) ≡ map (λ p. p * run) (strided shape steps from)
strided-times run [] steps from e = refl
strided-times run (n ∷ shape) [] from e = absurd (omega (arith, e))
strided-times run (n ∷ shape) (step ∷ steps) from e =
    flat_map_same (λ i. strided shape (map (λ s. s * run) steps) (from * run + i * (step * run))) (λ i.
    map (λ p. p * run) (strided shape steps (from + i * step))) (range_with_len 0 n) (λ i.
    ap (strided shape (map (λ s. s * run) steps)) (joined i)
    ∙ strided-times run shape steps (from + i * step) (omega (arith, e)))
    ∙ sym (map_flat (λ p. p * run) (λ i. strided shape steps (from + i * step)) (range_with_len 0 n))
  where
    joined : (i : ℕ) → from * run + i * (step * run) ≡ (from + i * step) * run
    joined i = ap (λ m. from * run + m) (sym (mul_assoc i step run)) ∙ sym (add-mul from (i * step) run)

    map_flat : (f : ℕ → ℕ) (g : ℕ → List ℕ) (xs : List ℕ) → map f (flat_map g xs) ≡ flat_map (λ x. map f (g x)) xs
    map_flat f g [] = refl
    map_flat f g (x ∷ xs) = map-append f (g x) (flat_map g xs) ∙ ap (λ l. map f (g x) ++ l) (map_flat f g xs)

-- so the places are runs, whose own places are those of the first dimensions
pub steps_of_runs : (first front last : List ℕ) →
    is_order (first ++ range_with_len (length first) (length last)) ≡ true → length front ≡ length first →
    moved_steps (first ++ range_with_len (length first) (length last)) (front ++ last) ≡
    map (λ s. s * count_of last) (moved_steps first front) ++ row_major last
steps_of_runs first front last e long =
    let order : List ℕ = first ++ range_with_len (length first) (length last) in
    let low = first_low first (length last) e in
    let low_front : (i : ℕ) → i < length first → get_or first i 0 < length front =
    λ i h. subst (λ n. get_or first i 0 < n) (sym long) (low i h) in
    let below : permuted order (front ++ last) ≡ permuted first front ++ last =
    permuted-append first (range_with_len (length first) (length last)) (front ++ last)
    ∙ ap₂ (λ a b. a ++ b) (permuted-front first front last low_front)
    (ap (λ n. permuted (range_with_len n (length last)) (front ++ last)) (sym long) ∙ permuted-behind front last) in
    let run : ℕ = count_of last in
    let zeros : List ℕ = replicate (length first) 0 in
    ap₂ (scattered order) (ap row_major below ∙ row_major-append (permuted first front) last)
    (ap (λ n. replicate n 0) (whole_long first (length last) e) ∙ zeros_both (length first) (length last))
    ∙ (scattered-append first (range_with_len (length first) (length last))
    (map (λ s. s * run) (row_major (permuted first front))) (row_major last) (zeros ++ replicate (length last) 0)
    (length-map (row_major (permuted first front)) (λ s. s * run)
    ∙ (length-row_major (permuted first front) ∙ length-permuted first front))
    ∙ (ap (scattered first (map (λ s. s * run) (row_major (permuted first front))))
    (ap₂ (λ n m. scattered (range_with_len n m) (row_major last) (zeros ++ replicate m 0))
    (sym (length-replicate (length first) 0)) (sym (length-row_major last)) ∙ scattered-behind zeros (row_major last))
    ∙ (scattered-front first (map (λ s. s * run) (row_major (permuted first front))) zeros (row_major last)
    (λ i h. subst (λ n. get_or first i 0 < n) (sym (length-replicate (length first) 0)) (low i h))
    ∙ ap (λ l. l ++ row_major last) (ap (scattered first (map (λ s. s * run) (row_major (permuted first front)))) (sym
    (zeros_times (length first) run)) ∙ scattered-map (λ s. s * run) first (row_major (permuted first front)) zeros))))

pub places_of_runs : (first front last : List ℕ) →
    is_order (first ++ range_with_len (length first) (length last)) ≡ true → length front ≡ length first →
    moved_places (first ++ range_with_len (length first) (length last)) (front ++ last) ≡
    in_runs (count_of last) (moved_places first front)
places_of_runs first front last e long =
    let order : List ℕ = first ++ range_with_len (length first) (length last) in
    let run : ℕ = count_of last in
    let all_long : length (front ++ last) ≡ length order =
    length-append front last ∙ (ap (λ n. n + length last) long ∙ sym (whole_long first (length last) e)) in
    let steps_long : length (moved_steps first front) ≡ length front = length-scattered first
    (row_major (permuted first front)) (replicate (length first) 0) ∙ (length-replicate (length first) 0 ∙ sym long) in
    sym (moved-strided order (front ++ last) e all_long)
    ∙ (ap (λ s. strided (front ++ last) s 0) (steps_of_runs first front last e long)
    ∙ (strided-append front last (map (λ s. s * run) (moved_steps first front)) (row_major last) 0
    (length-map (moved_steps first front) (λ s. s * run) ∙ steps_long)
    ∙ (flat_map_same (λ place. strided last (row_major last) place) (λ place. range_with_len place run)
    (strided front (map (λ s. s * run) (moved_steps first front)) 0) (λ place. strided-whole last place)
    ∙ (ap (flat_map (λ place. range_with_len place run)) (ap (strided front (map (λ s. s * run) (moved_steps first
    front))) (let none : 0 ≡ 0 * run = omega arith in none) ∙ strided-times run front (moved_steps first front) 0
    steps_long ∙ ap (map (λ p. p * run)) (moved-strided first front (first_order first (length last) e) long))
    ∙ flat_map-map (λ place. range_with_len place run) (λ p. p * run) (moved_places first front)))))
