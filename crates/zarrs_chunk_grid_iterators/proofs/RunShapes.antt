-- How the shape of the runs is made.
use Rattle.std.proofs.Common.{◌≡◌, ℕ, ◌+◌, ◌-◌, ◌*◌, ◌<◌, ◌^◌, ◌&&◌, true, false, cond, nat_eq, nat_lt, List, [], ◌∷◌}
use Rattle.std.proofs.Common.{◌++◌, Bool, length, map, replicate, take, drop, get_or, refl, sym, ap, ap₂, ◌∙◌, arith}
use Rattle.std.proofs.Common.{suc, ◌≤◌, subst}
use Rattle.std.proofs.lemmas.Bool.Decides.{nat_tests}
use Rattle.std.proofs.Math.Nat.{mul-le-mul_right}
use Rattle.std.proofs.lemmas.Bool.{and_parts, and_from, lt-ltb, ltb-true, ne_eqb, eq-eqb, eqb-true}
use Rattle.std.proofs.lemmas.List.{length-map}
use Rattle.zarr_model.specs.Region.{Region, count, count_of, sizes}
use Rattle.zarrs_array_subset.specs.Boxes.{region_of, is_box}
use Rattle.zarrs_array_subset.proofs.BoxLaws.{region_parts, length_region, same_rank}
use Rattle.zarrs_chunk_grid_iterators.specs.Runs.{is_whole, first_region_of, run_box, run_front, run_length, run_size}
use Rattle.zarrs_chunk_grid_iterators.specs.Runs.{runs, tuple_runs}
use Rattle.zarrs_chunk_grid_iterators.proofs.RunCover.{run_box_within}
use Rattle.zarr_model.specs.Region.{linear_index, tuples}
use Rattle.zarr_model.specs.Cover.{linear_indices}
use Rattle.zarr_model.proofs.RegionLaws.{count_within, tuples-empty}
use Rattle.zarrs_array_subset.proofs.Ravels.{tail_is, count_region, factors}

ones : (start shape : List ℕ) → is_box start shape ≡ true →
    sizes (first_region_of (region_of start shape)) ≡ replicate (length shape) 1
ones [] [] box = refl
ones [] (n ∷ shape) box = cc
ones (s ∷ start) [] box = cc
ones (s ∷ start) (n ∷ shape) box = ap (λ xs. 1 ∷ xs) (ones start shape (and_parts _ _ box).1)

-- the dimensions before a run, and those that it passes through, in their lengths
pub front_shape : (start shape arr : List ℕ) → is_box start shape ≡ true → length shape ≡ length arr →
    take (run_front arr (region_of start shape)) shape
    ++ replicate (length (drop (run_front arr (region_of start shape)) shape)) 1 ≡
    sizes (run_box arr (region_of start shape))
front_shape [] [] [] box rank = refl
front_shape [] [] (m ∷ arr) box rank = cc
front_shape [] (n ∷ shape) arr box rank = cc
front_shape (s ∷ start) [] arr box rank = cc
front_shape (s ∷ start) (n ∷ shape) [] box rank = cc
front_shape (s ∷ start) (n ∷ shape) (m ∷ arr) box rank =
    go (is_whole arr (region_of start shape)) (front_shape start shape arr (and_parts _ _ box).1 (omega arith))
  where
    go : (b : Bool) → take (run_front arr (region_of start shape)) shape
        ++ replicate (length (drop (run_front arr (region_of start shape)) shape)) 1 ≡
        sizes (run_box arr (region_of start shape)) →
        take (cond b 0 (suc (run_front arr (region_of start shape)))) (n ∷ shape)
        ++ replicate (length (drop (cond b 0 (suc (run_front arr (region_of start shape)))) (n ∷ shape))) 1 ≡
        sizes (cond b (first_region_of (region_of (s ∷ start) (n ∷ shape))) (record { start = s; size = n }
        ∷ run_box arr (region_of start shape)))
    go true ih = sym (ones (s ∷ start) (n ∷ shape) box)
    go false ih = ap (λ xs. n ∷ xs) ih

pub front_run : (start shape arr : List ℕ) → is_box start shape ≡ true → length shape ≡ length arr →
    count_of (drop (run_front arr (region_of start shape)) shape) ≡ run_length arr (region_of start shape)
front_run [] [] [] box rank = refl
front_run [] [] (m ∷ arr) box rank = cc
front_run [] (n ∷ shape) arr box rank = cc
front_run (s ∷ start) [] arr box rank = cc
front_run (s ∷ start) (n ∷ shape) [] box rank = cc
front_run (s ∷ start) (n ∷ shape) (m ∷ arr) box rank =
    go (is_whole arr (region_of start shape)) (front_run start shape arr (and_parts _ _ box).1 (omega arith))
  where
    go : (b : Bool) →
        count_of (drop (run_front arr (region_of start shape)) shape) ≡ run_length arr (region_of start shape) →
        count_of (drop (cond b 0 (suc (run_front arr (region_of start shape)))) (n ∷ shape)) ≡
        cond b (n * count (region_of start shape)) (run_length arr (region_of start shape))
    go true ih = sym (count_region (s ∷ start) (n ∷ shape) box)
    go false ih = ih

-- at rank 0 a box is the whole of the shape
pub front_none : (start shape arr : List ℕ) → length shape ≡ 0 → length shape ≡ length arr →
    is_whole arr (region_of start shape) ≡ true
front_none [] [] [] none rank = refl
front_none (s ∷ start) [] [] none rank = refl
front_none start [] (m ∷ arr) none rank = cc
front_none start (n ∷ shape) arr none rank = cc

run_step : (b : Bool) (n m run : ℕ) → 0 < n * m → (0 < m → run ≤ m) → cond b (n * m) run ≤ n * m
run_step true n m run some below = omega arith
run_step false n m run some below =
    let parts = factors n m some in
    let low : run ≤ m = below parts.1 in
    let up : 1 * m ≤ n * m = mul-le-mul_right m (let one : 1 ≤ n = omega (arith, parts.0) in one) in
    omega (arith, low, up)

-- a run has at most a region's elements
run_below : (shape : List ℕ) (region : Region) → 0 < count region → run_length shape region ≤ count region
run_below [] region some = omega (arith, some)
run_below (n ∷ shape) [] some = omega (arith, some)
run_below (n ∷ shape) (span ∷ region) some =
    run_step (is_whole shape region) span.size (count region) (run_length shape region) some
    (λ low. run_below shape region low)

pub run_low : (shape : List ℕ) (region : Region) → run_size shape region ≤ count region
run_low shape region = go (nat_eq (count region) 0) refl
  where
    go : (b : Bool) → nat_eq (count region) 0 ≡ b → cond b 0 (run_length shape region) ≤ count region
    go true is = omega arith
    go false is = run_below shape region (some_left (count region) is)
      where
        some_left : (m : ℕ) → nat_eq m 0 ≡ false → 0 < m
        some_left m is = grind (arith, nat_tests)

pub front_small : (start shape arr : List ℕ) → is_box start shape ≡ true → length shape ≡ length arr →
    0 < count_of shape → count_of (drop (run_front arr (region_of start shape)) shape) ≤ count_of shape
front_small start shape arr box rank some =
    let all : count (region_of start shape) ≡ count_of shape = count_region start shape box in
    omega (
      arith,
      front_run start shape arr box rank,
      run_below arr (region_of start shape) (subst (λ n. 0 < n) (sym all) some),
      all,
    )

-- one dimension more, by what is so of the rest
pub front_step : (start shape arr : List ℕ) (front : ℕ) (rest : Bool) → is_box start shape ≡ true → 0 < length start →
    0 < length shape → 0 < length arr →
    front ≡ run_front (take (length arr - 1) (drop 1 arr))
    (region_of (take (length start - 1) (drop 1 start)) (take (length shape - 1) (drop 1 shape))) →
    rest ≡ is_whole (take (length arr - 1) (drop 1 arr))
    (region_of (take (length start - 1) (drop 1 start)) (take (length shape - 1) (drop 1 shape))) →
    (cond rest 0 (suc front) ≡ run_front arr (region_of start shape))
    × (((nat_eq (get_or start 0 0) 0 && nat_eq (get_or shape 0 0) (get_or arr 0 0)) && rest) ≡
    is_whole arr (region_of start shape))
front_step [] shape arr front rest box a b c f w = absurd (omega arith)
front_step (s ∷ start) [] arr front rest box a b c f w = absurd (omega arith)
front_step (s ∷ start) (n ∷ shape) [] front rest box a b c f w = absurd (omega arith)
front_step (s ∷ start) (n ∷ shape) (m ∷ arr) front rest box a b c f w =
    let tr = ap₂ region_of (tail_is s start) (tail_is n shape) in
    let f2 : front ≡ run_front arr (region_of start shape) = f ∙ ap₂ run_front (tail_is m arr) tr in
    let w2 : rest ≡ is_whole arr (region_of start shape) = w ∙ ap₂ is_whole (tail_is m arr) tr in
    (ap₂ (λ w k. cond w 0 (suc k)) w2 f2, ap (λ w. (nat_eq s 0 && nat_eq n m) && w) w2)

-- the box of a run's starts has the region's starts
first_region : (start shape : List ℕ) → is_box start shape ≡ true →
    region_of start (sizes (first_region_of (region_of start shape))) ≡ first_region_of (region_of start shape)
first_region [] [] box = refl
first_region [] (n ∷ shape) box = cc
first_region (s ∷ start) [] box = cc
first_region (s ∷ start) (n ∷ shape) box =
    ap (λ r. record { start = s; size = 1 } ∷ r) (first_region start shape (and_parts _ _ box).1)

pub run_region : (start shape arr : List ℕ) → is_box start shape ≡ true → length shape ≡ length arr →
    region_of start (sizes (run_box arr (region_of start shape))) ≡ run_box arr (region_of start shape)
run_region [] [] [] box rank = refl
run_region [] [] (m ∷ arr) box rank = cc
run_region [] (n ∷ shape) arr box rank = cc
run_region (s ∷ start) [] arr box rank = cc
run_region (s ∷ start) (n ∷ shape) [] box rank = cc
run_region (s ∷ start) (n ∷ shape) (m ∷ arr) box rank =
    go (is_whole arr (region_of start shape)) (run_region start shape arr (and_parts _ _ box).1 (omega arith))
  where
    go : (b : Bool) →
        region_of start (sizes (run_box arr (region_of start shape))) ≡ run_box arr (region_of start shape) →
        region_of (s ∷ start) (sizes (cond b (first_region_of (region_of (s ∷ start) (n ∷ shape)))
        (record { start = s; size = n } ∷ run_box arr (region_of start shape))))
        ≡ cond b (first_region_of (region_of (s ∷ start) (n ∷ shape))) (record { start = s; size = n }
        ∷ run_box arr (region_of start shape))
    go true ih = first_region (s ∷ start) (n ∷ shape) box
    go false ih = ap (λ r. record { start = s; size = n } ∷ r) ih

first_fits : (start shape : List ℕ) → is_box start shape ≡ true → 0 < count_of shape →
    is_box start (sizes (first_region_of (region_of start shape))) ≡ true
first_fits [] [] box some = refl
first_fits [] (n ∷ shape) box some = cc
first_fits (s ∷ start) [] box some = cc
first_fits (s ∷ start) (n ∷ shape) box some =
    let p = and_parts (nat_lt (s + n) (2 ^ 64)) (is_box start shape) box in
    let f : (0 < n) × (0 < count_of shape) = factors n (count_of shape) some in
    let fit : s + n < 2 ^ 64 = ltb-true _ _ p.0 in
    let here : s + 1 < 2 ^ 64 = omega arith in
    and_from _ _ (lt-ltb _ _ here) (first_fits start shape p.1 f.1)

pub run_fits : (start shape arr : List ℕ) → is_box start shape ≡ true → length shape ≡ length arr → 0 < count_of shape →
    is_box start (sizes (run_box arr (region_of start shape))) ≡ true
run_fits [] [] [] box rank some = refl
run_fits [] [] (m ∷ arr) box rank some = cc
run_fits [] (n ∷ shape) arr box rank some = cc
run_fits (s ∷ start) [] arr box rank some = cc
run_fits (s ∷ start) (n ∷ shape) [] box rank some = cc
run_fits (s ∷ start) (n ∷ shape) (m ∷ arr) box rank some =
    go (is_whole arr (region_of start shape))
    (run_fits start shape arr (and_parts _ _ box).1 (omega arith) (factors n (count_of shape) some).1)
  where
    go : (b : Bool) → is_box start (sizes (run_box arr (region_of start shape))) ≡ true →
        is_box (s ∷ start) (sizes (cond b (first_region_of (region_of (s ∷ start) (n ∷ shape)))
        (record { start = s; size = n } ∷ run_box arr (region_of start shape)))) ≡ true
    go true ih = first_fits (s ∷ start) (n ∷ shape) box some
    go false ih = and_from _ _ (and_parts (nat_lt (s + n) (2 ^ 64)) (is_box start shape) box).0 ih

-- the list of the runs, where there is a tuple and where there is none
pub runs_some : (arr : List ℕ) (region : Region) → 0 < count region → runs arr region ≡
    map (λ index. record { start = index; size = run_length arr region }) (linear_indices arr (run_box arr region))
runs_some arr region some = ap (λ b. cond b [] (map (λ index. record { start = index; size = run_length arr region })
    (linear_indices arr (run_box arr region)))) (ne_eqb _ _ (λ none. omega (arith, none, some)))

pub runs_none : (arr : List ℕ) (region : Region) → count region ≡ 0 →
    (runs arr region ≡ []) × (linear_indices arr region ≡ [])
runs_none arr region none = (
  ap (λ b. cond b [] (map (λ index. record { start = index; size = run_length arr region })
      (linear_indices arr (run_box arr region)))) (eq-eqb _ _ none),
  ap (map (linear_index arr)) (tuples-empty region none),
)

pub ruleset of_starts = (run_region, run_fits, region_parts, length-map, front_shape, front_run, front_small, count_region)

pub ruleset of_new = (runs_some, runs_none, run_box_within, count_within, count_region, length_region, same_rank)

pub ruleset of_runs = (front_none, front_step)

-- a region without tuples has no run
pub empty_runs : (arr : List ℕ) (region : Region) (listed : List ℕ) (n : ℕ) → nat_eq (count region) 0 ≡ true →
    listed ≡ linear_indices arr region →
    map (λ index. record { start = index; size = n }) listed ≡ runs arr region
empty_runs arr region listed n none e =
    let r = runs_none arr region (eqb-true _ _ none) in
    ap (map (λ index. record { start = index; size = n })) (e ∙ r.1) ∙ sym r.0

pub empty_tuple_runs : (arr : List ℕ) (region : Region) (listed : List (List ℕ)) (n : ℕ) →
    nat_eq (count region) 0 ≡ true → listed ≡ tuples region →
    map (λ tuple. (tuple, n)) listed ≡ tuple_runs arr region
empty_tuple_runs arr region listed n none e =
    ap (map (λ tuple. (tuple, n))) (e ∙ tuples-empty region (eqb-true _ _ none))
    ∙ sym (ap (λ b. cond b [] (map (λ tuple. (tuple, run_length arr region)) (tuples (run_box arr region)))) none)
