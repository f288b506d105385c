-- The linear index of the tuple at a place.
use Rattle.std.proofs.Common.{◌≡◌, ℕ, ◌+◌, ◌-◌, ◌*◌, ◌/◌, ◌%◌, ◌<◌, ◌^◌, true, nat_lt, List, [], ◌∷◌, length, take}
use Rattle.std.proofs.Common.{drop, get_or, map, refl, sym, ap, ap₂, ◌∙◌, subst, subst₂, arith}
use Rattle.std.proofs.lemmas.Bool.{and_parts}
use Rattle.zarr_model.specs.Region.{Region, count, count_of, whole, ends_within, tuple_at, linear_index}
use Rattle.zarrs_array_subset.specs.Boxes.{region_of, is_box}
use Rattle.zarrs_array_subset.proofs.Ravels.{rest_count, count_region, row_below, tail_is}
use Rattle.zarr_model.proofs.RegionLaws.{place_below, contains-tuple_at, length-tuples, get_or-tuples, count_within}
use Rattle.zarr_model.proofs.RegionLaws.{count_whole}
use Rattle.zarr_model.specs.Region.{tuples}
use Rattle.zarr_model.specs.Cover.{linear_indices}
use Rattle.zarrs_chunk_grid_iterators.specs.Places.{places, linear_at}
use Rattle.std.proofs.lemmas.List.FromFn.{length-map-range_with_len, get_or-map-range_with_len}
use Rattle.std.proofs.lemmas.List.{length-map, get_or-map, same_lists}
use Rattle.zarr_model.proofs.ArrayLaws.{inside_shape}

pub linear_below : (region : Region) (shape : List ℕ) (place : ℕ) → ends_within region shape ≡ true →
    place < count region → linear_index shape (tuple_at region place) < count_of shape
linear_below region shape place e below =
    subst (λ c. linear_index shape (tuple_at region place) < c) (count_whole shape)
    (place_below (whole shape) (tuple_at region place)
    (inside_shape region shape (tuple_at region place) e (contains-tuple_at region place below)))

pub linear_step : (start shape arr : List ℕ) (place total rest stride : ℕ) → is_box start shape ≡ true →
    ends_within (region_of start shape) arr ≡ true →
    0 < length start → 0 < length shape → 0 < length arr → total ≡ count_of shape → place < total →
    rest ≡ linear_index (take (length arr - 1) (drop 1 arr)) (tuple_at (region_of (take (length start - 1) (drop 1
    start)) (take (length shape - 1) (drop 1 shape))) (place % (total / get_or shape 0 0))) →
    stride ≡ count_of (take (length arr - 1) (drop 1 arr)) →
    ((get_or start 0 0 + place / (total / get_or shape 0 0)) * stride + rest ≡
    linear_index arr (tuple_at (region_of start shape) place))
    × ((get_or start 0 0 + place / (total / get_or shape 0 0)) * stride + rest < count_of arr)
linear_step [] shape arr place total rest stride box e a b c full below r st = absurd (omega arith)
linear_step (s ∷ start) [] arr place total rest stride box e a b c full below r st = absurd (omega arith)
linear_step (s ∷ start) (n ∷ shape) [] place total rest stride box e a b c full below r st = absurd (omega arith)
linear_step (s ∷ start) (n ∷ shape) (m ∷ arr) place total rest stride box e a b c full below r st =
    let p = and_parts (nat_lt (s + n) (2 ^ 64)) (is_box start shape) box in
    let cr : count (region_of start shape) ≡ count_of shape = count_region start shape p.1 in
    let one : total / n ≡ count (region_of start shape) =
    ap (λ k. k / n) full ∙ rest_count n (count_of shape) (omega (arith, full, below)) ∙ sym cr in
    let tr = ap₂ region_of (tail_is s start) (tail_is n shape) in
    let same_rest : rest ≡ linear_index arr (tuple_at (region_of start shape) (place % count (region_of start shape))) =
    r ∙ ap₂ (λ x y. linear_index x (tuple_at y (place % (total / n)))) (tail_is m arr) tr
    ∙ ap (λ k. linear_index arr (tuple_at (region_of start shape) (place % k))) one in
    let same_stride : stride ≡ count (whole arr) = st ∙ ap count_of (tail_is m arr) ∙ sym (count_whole arr) in
    let zip : s + place / count (region_of start shape) - 0 ≡ s + place / count (region_of start shape) = omega arith in
    let same = ap₂ (λ x y. (s + place / x) * y + rest) one same_stride
    ∙ ap₂ (λ x y. x * count (whole arr) + y) (sym zip) same_rest in (
      same,
      subst (λ k. k < count_of (m ∷ arr)) (sym same) (linear_below (region_of (s ∷ start) (n ∷ shape)) (m
          ∷ arr) place e (subst₂ (λ x y. x < y) refl (full ∙ sym (count_region (s ∷ start) (n ∷ shape) box)) below)),
    )

pub linear_none : (start shape arr : List ℕ) (place : ℕ) → length shape ≡ 0 → is_box start shape ≡ true →
    ends_within (region_of start shape) arr ≡ true →
    (0 ≡ linear_index arr (tuple_at (region_of start shape) place)) × (1 ≡ count_of arr)
linear_none [] [] [] place none box e = (refl, refl)
linear_none [] [] (m ∷ arr) place none box e = cc
linear_none (s ∷ start) [] arr place none box e = cc
linear_none start (n ∷ shape) arr place none box e = absurd (omega arith)

-- the linear indices of all places are the list
pub all_places : (region : Region) (shape : List ℕ) →
    map (linear_at shape region) (places 0 (count region)) ≡ linear_indices shape region
all_places region shape =
    same_lists _ _ (long ∙ sym (length-map (tuples region) (linear_index shape) ∙ length-tuples region)) (λ k d h.
    let below : k < count region = subst (λ n. k < n) long h in
    get_or-map-range_with_len (linear_at shape region) 0 (count region - 0) k k d (omega arith) (omega arith)
    ∙ sym (get_or-map (linear_index shape) (tuples region) k [] d (subst (λ n. k < n) (sym (length-tuples region))
    below) ∙ ap (linear_index shape) (get_or-tuples region k [] below)))
  where
    long : length (map (linear_at shape region) (places 0 (count region))) ≡ count region
    long = length-map-range_with_len (linear_at shape region) 0 (count region - 0) ∙ (omega arith)

pub all_tuples : (region : Region) → map (tuple_at region) (places 0 (count region)) ≡ tuples region
all_tuples region = same_lists _ _ (long ∙ sym (length-tuples region)) (λ k d h.
    let below : k < count region = subst (λ n. k < n) long h in
    get_or-map-range_with_len (tuple_at region) 0 (count region - 0) k k d (omega arith) (omega arith)
    ∙ sym (get_or-tuples region k d below))
  where
    long : length (map (tuple_at region) (places 0 (count region))) ≡ count region
    long = length-map-range_with_len (tuple_at region) 0 (count region - 0) ∙ (omega arith)

pub ruleset of_all = (all_tuples)

pub ruleset of_new = (count_within, all_places)

pub ruleset of_linear = (rest_count, count_region, row_below)
