-- The greater starts and the lengths to the lesser ends are the part that two boxes share; the starts past those of
-- one of them are where it lies in that one.
use Rattle.std.proofs.Common.{◌≡◌, ℕ, ◌+◌, ◌-◌, ◌<◌, ◌^◌, true, nat_lt, min, max, List, [], ◌∷◌, length, refl, ap₂}
use Rattle.std.proofs.Common.{arith}
use Rattle.std.proofs.lemmas.Bool.{and_parts, and_from, ltb-true, lt-ltb}
use Rattle.zarr_model.specs.Region.{overlap_of, part_of_box}
use Rattle.zarrs_array_subset.specs.Boxes.{is_box, differences, maxes, region_of, lengths_shared}
use Rattle.zarrs_array_subset.proofs.BoxLaws.{length_region}

-- the lesser of two ends that fit is as long after each start
module _ (a n b m : ℕ) (ha : nat_lt (a + n) (2 ^ 64) ≡ true) (hb : nat_lt (b + m) (2 ^ 64) ≡ true) where
  length_is : min (min (a + n) (2 ^ 64 - 1)) (min (b + m) (2 ^ 64 - 1)) - max a b
      ≡ min (a + n) (b + m) - max a b
  length_is = let fa : a + n < 2 ^ 64 = ltb-true _ _ ha in let fb : b + m < 2 ^ 64 = ltb-true _ _ hb in omega arith

  end_fits : max a b + (min (min (a + n) (2 ^ 64 - 1)) (min (b + m) (2 ^ 64 - 1)) - max a b) < 2 ^ 64
  end_fits = let fa : a + n < 2 ^ 64 = ltb-true _ _ ha in let fb : b + m < 2 ^ 64 = ltb-true _ _ hb in omega arith

pub part_is : (xs xn ys yn : List ℕ) → is_box xs xn ≡ true → is_box ys yn ≡ true → length xs ≡ length ys →
    region_of (maxes xs ys) (lengths_shared xs xn ys yn) ≡ overlap_of (region_of xs xn) (region_of ys yn)
unfolding lengths_shared
part_is [] [] [] [] ba bb e = refl
part_is (a ∷ xs) [] ys yn ba bb e = cc
part_is [] (n ∷ xn) ys yn ba bb e = cc
part_is xs xn (b ∷ ys) [] ba bb e = cc
part_is xs xn [] (m ∷ yn) ba bb e = cc
part_is [] [] (b ∷ ys) (m ∷ yn) ba bb e = cc
part_is (a ∷ xs) (n ∷ xn) [] [] ba bb e = cc
part_is (a ∷ xs) (n ∷ xn) (b ∷ ys) (m ∷ yn) ba bb e =
    let pa = and_parts (nat_lt (a + n) (2 ^ 64)) (is_box xs xn) ba in
    let pb = and_parts (nat_lt (b + m) (2 ^ 64)) (is_box ys yn) bb in
    ap₂ (λ size rest. record { start = max a b; size = size } ∷ rest)
    (length_is a n b m pa.0 pb.0) (part_is xs xn ys yn pa.1 pb.1 (omega arith))

pub part_fits : (xs xn ys yn : List ℕ) → is_box xs xn ≡ true → is_box ys yn ≡ true → length xs ≡ length ys →
    is_box (maxes xs ys) (lengths_shared xs xn ys yn) ≡ true
unfolding lengths_shared
part_fits [] [] [] [] ba bb e = refl
part_fits (a ∷ xs) [] ys yn ba bb e = cc
part_fits [] (n ∷ xn) ys yn ba bb e = cc
part_fits xs xn (b ∷ ys) [] ba bb e = cc
part_fits xs xn [] (m ∷ yn) ba bb e = cc
part_fits [] [] (b ∷ ys) (m ∷ yn) ba bb e = cc
part_fits (a ∷ xs) (n ∷ xn) [] [] ba bb e = cc
part_fits (a ∷ xs) (n ∷ xn) (b ∷ ys) (m ∷ yn) ba bb e =
    let pa = and_parts (nat_lt (a + n) (2 ^ 64)) (is_box xs xn) ba in
    let pb = and_parts (nat_lt (b + m) (2 ^ 64)) (is_box ys yn) bb in
    and_from _ _ (lt-ltb _ _ (end_fits a n b m pa.0 pb.0)) (part_fits xs xn ys yn pa.1 pb.1 (omega arith))

pub past_is : (xs xn ys yn : List ℕ) → is_box xs xn ≡ true → is_box ys yn ≡ true → length xs ≡ length ys →
    region_of (differences xs ys) (lengths_shared xs xn ys yn) ≡ part_of_box (region_of xs xn) (region_of ys yn)
unfolding lengths_shared
past_is [] [] [] [] ba bb e = refl
past_is (a ∷ xs) [] ys yn ba bb e = cc
past_is [] (n ∷ xn) ys yn ba bb e = cc
past_is xs xn (b ∷ ys) [] ba bb e = cc
past_is xs xn [] (m ∷ yn) ba bb e = cc
past_is [] [] (b ∷ ys) (m ∷ yn) ba bb e = cc
past_is (a ∷ xs) (n ∷ xn) [] [] ba bb e = cc
past_is (a ∷ xs) (n ∷ xn) (b ∷ ys) (m ∷ yn) ba bb e =
    let pa = and_parts (nat_lt (a + n) (2 ^ 64)) (is_box xs xn) ba in
    let pb = and_parts (nat_lt (b + m) (2 ^ 64)) (is_box ys yn) bb in
    let at : a - b ≡ max a b - b = omega arith in
    ap₂ (λ s r. s ∷ r)
    (ap₂ (λ s n. record { start = s; size = n }) at (length_is a n b m pa.0 pb.0))
    (past_is xs xn ys yn pa.1 pb.1 (omega arith))

pub past_fits : (xs xn ys yn : List ℕ) → is_box xs xn ≡ true → is_box ys yn ≡ true → length xs ≡ length ys →
    is_box (differences xs ys) (lengths_shared xs xn ys yn) ≡ true
unfolding lengths_shared
past_fits [] [] [] [] ba bb e = refl
past_fits (a ∷ xs) [] ys yn ba bb e = cc
past_fits [] (n ∷ xn) ys yn ba bb e = cc
past_fits xs xn (b ∷ ys) [] ba bb e = cc
past_fits xs xn [] (m ∷ yn) ba bb e = cc
past_fits [] [] (b ∷ ys) (m ∷ yn) ba bb e = cc
past_fits (a ∷ xs) (n ∷ xn) [] [] ba bb e = cc
past_fits (a ∷ xs) (n ∷ xn) (b ∷ ys) (m ∷ yn) ba bb e =
    let pa = and_parts (nat_lt (a + n) (2 ^ 64)) (is_box xs xn) ba in
    let pb = and_parts (nat_lt (b + m) (2 ^ 64)) (is_box ys yn) bb in
    let here : a - b + (min (min (a + n) (2 ^ 64 - 1)) (min (b + m) (2 ^ 64 - 1)) - max a b) < 2 ^ 64 =
    omega (arith, end_fits a n b m pa.0 pb.0) in
    and_from _ _ (lt-ltb _ _ here) (past_fits xs xn ys yn pa.1 pb.1 (omega arith))

pub ruleset of_parts = (length_region, part_is, part_fits, past_is, past_fits)
