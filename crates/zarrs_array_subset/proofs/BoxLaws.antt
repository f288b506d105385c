-- Facts on the two lists of a box.
use Rattle.std.proofs.Common.{◌≡◌, ℕ, ◌+◌, ◌-◌, ◌*◌, ◌<◌, ◌≤◌, ◌^◌, ◌&&◌, suc, get_or, true, false, nat_eq, nat_lt}
use Rattle.std.proofs.Common.{nat_le, min, List, [], ◌∷◌, length, map, replicate, zero, refl, sym, ap, ap₂, ◌∙◌}
use Rattle.std.proofs.Common.{arith}
use Rattle.std.specs.List.{zip, list_all, list_any}
use Rattle.std.proofs.lemmas.Bool.{and_parts, and_from, ltb-true, lt-ltb}
use Rattle.std.proofs.Math.Nat.{zero-mul, mul_comm, mul-le-mul_right}
use Rattle.zarr_model.specs.Region.{Region, count_of, sizes, ends_within, whole}
use Rattle.std.proofs.lemmas.List.{length-map}
use Rattle.std.specs.declared.ops.Range.{Range}
use Rattle.zarrs_array_subset.specs.Boxes.{box_in, is_rising, is_rising_inc, is_within, last_indices, ranges_of}
use Rattle.zarrs_array_subset.specs.Boxes.{region_of_ranges, region_between, is_box, region_of, ends}
use Rattle.zarrs_array_subset.specs.Boxes.{starts_past, moved_back, contains_front, ends_fit, moved, cut_at, sums_up}
use Rattle.zarrs_array_subset.specs.Boxes.{differences, mins, are_in, ends_in_bounds, can_move}

pub same_rank : (start shape : List ℕ) → is_box start shape ≡ true → length start ≡ length shape
same_rank [] [] e = refl
same_rank [] (n ∷ shape) e = cc
same_rank (s ∷ start) [] e = cc
same_rank (s ∷ start) (n ∷ shape) e = let rest : length start ≡ length shape =
    same_rank start shape (and_parts _ _ e).1 in omega arith

-- a box, by its length and its pairs
pub is_box_by_zip : (start shape : List ℕ) → length start ≡ length shape →
    is_box start shape ≡ list_all (λ p. nat_lt (p.0 + p.1) (2 ^ 64)) (zip start shape)
is_box_by_zip [] [] e = refl
is_box_by_zip [] (n ∷ shape) e = cc
is_box_by_zip (s ∷ start) [] e = cc
is_box_by_zip (s ∷ start) (n ∷ shape) e =
    ap (λ b. nat_lt (s + n) (2 ^ 64) && b) (is_box_by_zip start shape (omega arith))

pub length_region : (start shape : List ℕ) → is_box start shape ≡ true → length (region_of start shape) ≡ length start
length_region [] [] e = refl
length_region [] (n ∷ shape) e = cc
length_region (s ∷ start) [] e = cc
length_region (s ∷ start) (n ∷ shape) e = let rest : length (region_of start shape) ≡ length start =
    length_region start shape (and_parts _ _ e).1 in omega arith

pub starts_region : (start shape : List ℕ) → is_box start shape ≡ true →
    map (λ span. span.start) (region_of start shape) ≡ start
starts_region [] [] e = refl
starts_region [] (n ∷ shape) e = cc
starts_region (s ∷ start) [] e = cc
starts_region (s ∷ start) (n ∷ shape) e = ap (λ ns. s ∷ ns) (starts_region start shape (and_parts _ _ e).1)

pub sizes_region : (start shape : List ℕ) → is_box start shape ≡ true → sizes (region_of start shape) ≡ shape
sizes_region [] [] e = refl
sizes_region [] (n ∷ shape) e = cc
sizes_region (s ∷ start) [] e = cc
sizes_region (s ∷ start) (n ∷ shape) e = ap (λ ns. n ∷ ns) (sizes_region start shape (and_parts _ _ e).1)

-- sums that stop at the greatest number are the ends
pub ends_by_zip : (start shape : List ℕ) → is_box start shape ≡ true →
    sums_up start shape ≡ ends (region_of start shape)
ends_by_zip [] [] e = refl
ends_by_zip [] (n ∷ shape) e = cc
ends_by_zip (s ∷ start) [] e = cc
ends_by_zip (s ∷ start) (n ∷ shape) e =
    let parts = and_parts (nat_lt (s + n) (2 ^ 64)) (is_box start shape) e in
    let fits : s + n < 2 ^ 64 = ltb-true _ _ parts.0 in
    let here : min (s + n) (2 ^ 64 - 1) ≡ s + n = omega arith in
    ap₂ (λ x xs. x ∷ xs) here (ends_by_zip start shape parts.1)

-- a test of an index or an end that stops at the greatest number is the test in the span
pub within_by_zip : (start shape indices : List ℕ) → is_box start shape ≡ true →
    are_in start shape indices ≡ contains_front (region_of start shape) indices
unfolding are_in
within_by_zip [] [] indices e = refl
within_by_zip [] (n ∷ shape) indices e = cc
within_by_zip (s ∷ start) [] indices e = cc
within_by_zip (s ∷ start) (n ∷ shape) [] e = refl
within_by_zip (s ∷ start) (n ∷ shape) (i ∷ indices) e =
    let parts = and_parts (nat_lt (s + n) (2 ^ 64)) (is_box start shape) e in
    let fits : s + n < 2 ^ 64 = ltb-true _ _ parts.0 in
    let here : min (s + n) (2 ^ 64 - 1) ≡ s + n = omega arith in
    ap₂ (λ m rest. (nat_le s i && nat_lt i m) && rest) here (within_by_zip start shape indices parts.1)

pub ends_within_by_zip : (start shape bounds : List ℕ) → is_box start shape ≡ true → length start ≡ length bounds →
    ends_in_bounds start shape bounds ≡ ends_within (region_of start shape) bounds
unfolding ends_in_bounds
ends_within_by_zip [] [] [] e rank = refl
ends_within_by_zip [] [] (b ∷ bounds) e rank = cc
ends_within_by_zip [] (n ∷ shape) bounds e rank = cc
ends_within_by_zip (s ∷ start) [] bounds e rank = cc
ends_within_by_zip (s ∷ start) (n ∷ shape) [] e rank = cc
ends_within_by_zip (s ∷ start) (n ∷ shape) (b ∷ bounds) e rank =
    let parts = and_parts (nat_lt (s + n) (2 ^ 64)) (is_box start shape) e in
    let fits : s + n < 2 ^ 64 = ltb-true _ _ parts.0 in
    let here : min (s + n) (2 ^ 64 - 1) ≡ s + n = omega arith in
    ap₂ (λ m rest. nat_le m b && rest) here (ends_within_by_zip start shape bounds parts.1 (omega arith))

pub other_rank : (start shape bounds : List ℕ) → is_box start shape ≡ true → (length start ≡ length bounds → ⊥) →
    ends_within (region_of start shape) bounds ≡ false
other_rank [] [] [] e rank = absurd (rank refl)
other_rank [] [] (b ∷ bounds) e rank = refl
other_rank [] (n ∷ shape) bounds e rank = cc
other_rank (s ∷ start) [] bounds e rank = cc
other_rank (s ∷ start) (n ∷ shape) [] e rank = refl
other_rank (s ∷ start) (n ∷ shape) (b ∷ bounds) e rank =
    let rest : ends_within (region_of start shape) bounds ≡ false =
    other_rank start shape bounds (and_parts _ _ e).1 (λ same. rank (ap suc same)) in
    grind (arith, rest)

-- what is taken off a start
pub starts_past_by_zip : (start shape offset : List ℕ) → is_box start shape ≡ true → length offset ≡ length start →
    list_all (λ p. nat_le p.0 p.1) (zip offset start) ≡ starts_past (region_of start shape) offset
starts_past_by_zip [] [] [] e rank = refl
starts_past_by_zip [] [] (o ∷ offset) e rank = cc
starts_past_by_zip [] (n ∷ shape) offset e rank = cc
starts_past_by_zip (s ∷ start) [] offset e rank = cc
starts_past_by_zip (s ∷ start) (n ∷ shape) [] e rank = cc
starts_past_by_zip (s ∷ start) (n ∷ shape) (o ∷ offset) e rank =
    ap (λ rest. nat_le o s && rest) (starts_past_by_zip start shape offset (and_parts _ _ e).1 (omega arith))

pub starts_past_rank : (start shape offset : List ℕ) → is_box start shape ≡ true → (length offset ≡ length start → ⊥) →
    starts_past (region_of start shape) offset ≡ false
starts_past_rank [] [] [] e rank = absurd (rank refl)
starts_past_rank [] [] (o ∷ offset) e rank = refl
starts_past_rank [] (n ∷ shape) offset e rank = cc
starts_past_rank (s ∷ start) [] offset e rank = cc
starts_past_rank (s ∷ start) (n ∷ shape) [] e rank = refl
starts_past_rank (s ∷ start) (n ∷ shape) (o ∷ offset) e rank =
    let rest : starts_past (region_of start shape) offset ≡ false =
    starts_past_rank start shape offset (and_parts _ _ e).1 (λ same. rank (ap suc same)) in
    grind (arith, rest)

pub moved_back_is : (start shape offset : List ℕ) → is_box start shape ≡ true → length offset ≡ length start →
    region_of (differences start offset) shape ≡ moved_back (region_of start shape) offset
moved_back_is [] [] [] e rank = refl
moved_back_is [] [] (o ∷ offset) e rank = cc
moved_back_is [] (n ∷ shape) offset e rank = cc
moved_back_is (s ∷ start) [] offset e rank = cc
moved_back_is (s ∷ start) (n ∷ shape) [] e rank = cc
moved_back_is (s ∷ start) (n ∷ shape) (o ∷ offset) e rank = ap (λ rest.
    record { start = s - o; size = n } ∷ rest) (moved_back_is start shape offset (and_parts _ _ e).1 (omega arith))

pub moved_back_fits : (start shape offset : List ℕ) → is_box start shape ≡ true → length offset ≡ length start →
    is_box (differences start offset) shape ≡ true
moved_back_fits [] [] [] e rank = refl
moved_back_fits [] [] (o ∷ offset) e rank = cc
moved_back_fits [] (n ∷ shape) offset e rank = cc
moved_back_fits (s ∷ start) [] offset e rank = cc
moved_back_fits (s ∷ start) (n ∷ shape) [] e rank = cc
moved_back_fits (s ∷ start) (n ∷ shape) (o ∷ offset) e rank =
    let parts = and_parts (nat_lt (s + n) (2 ^ 64)) (is_box start shape) e in
    let fits : s + n < 2 ^ 64 = ltb-true _ _ parts.0 in
    let here : (s - o) + n < 2 ^ 64 = omega arith in
    and_from _ _ (lt-ltb _ _ here) (moved_back_fits start shape offset parts.1 (omega arith))

-- what is added to a start
pub ends_fit_by_zip : (start shape offset : List ℕ) → is_box start shape ≡ true → length offset ≡ length start →
    can_move start shape offset ≡ ends_fit (region_of start shape) offset
unfolding can_move
ends_fit_by_zip [] [] [] e rank = refl
ends_fit_by_zip [] [] (o ∷ offset) e rank = cc
ends_fit_by_zip [] (n ∷ shape) offset e rank = cc
ends_fit_by_zip (s ∷ start) [] offset e rank = cc
ends_fit_by_zip (s ∷ start) (n ∷ shape) [] e rank = cc
ends_fit_by_zip (s ∷ start) (n ∷ shape) (o ∷ offset) e rank = ap (λ rest.
    nat_lt (s + o + n) (2 ^ 64) && rest) (ends_fit_by_zip start shape offset (and_parts _ _ e).1 (omega arith))

pub ends_fit_rank : (start shape offset : List ℕ) → is_box start shape ≡ true → (length offset ≡ length start → ⊥) →
    ends_fit (region_of start shape) offset ≡ false
ends_fit_rank [] [] [] e rank = absurd (rank refl)
ends_fit_rank [] [] (o ∷ offset) e rank = refl
ends_fit_rank [] (n ∷ shape) offset e rank = cc
ends_fit_rank (s ∷ start) [] offset e rank = cc
ends_fit_rank (s ∷ start) (n ∷ shape) [] e rank = refl
ends_fit_rank (s ∷ start) (n ∷ shape) (o ∷ offset) e rank =
    let rest : ends_fit (region_of start shape) offset ≡ false =
    ends_fit_rank start shape offset (and_parts _ _ e).1 (λ same. rank (ap suc same)) in
    grind (arith, rest)

pub moved_is : (start shape offset : List ℕ) → is_box start shape ≡ true →
    ends_fit (region_of start shape) offset ≡ true →
    region_of (sums_up start offset) shape ≡ moved (region_of start shape) offset
moved_is [] [] [] e fit = refl
moved_is [] [] (o ∷ offset) e fit = cc
moved_is [] (n ∷ shape) offset e fit = cc
moved_is (s ∷ start) [] offset e fit = cc
moved_is (s ∷ start) (n ∷ shape) [] e fit = cc
moved_is (s ∷ start) (n ∷ shape) (o ∷ offset) e fit =
    let parts = and_parts (nat_lt (s + o + n) (2 ^ 64)) (ends_fit (region_of start shape) offset) fit in
    let below : s + o + n < 2 ^ 64 = ltb-true _ _ parts.0 in
    let here : min (s + o) (2 ^ 64 - 1) ≡ s + o = omega arith in
    ap₂ (λ a rest. record { start = a; size = n } ∷ rest) here (moved_is start shape offset (and_parts _ _ e).1 parts.1)

pub moved_fits : (start shape offset : List ℕ) → is_box start shape ≡ true →
    ends_fit (region_of start shape) offset ≡ true → is_box (sums_up start offset) shape ≡ true
moved_fits [] [] [] e fit = refl
moved_fits [] [] (o ∷ offset) e fit = cc
moved_fits [] (n ∷ shape) offset e fit = cc
moved_fits (s ∷ start) [] offset e fit = cc
moved_fits (s ∷ start) (n ∷ shape) [] e fit = cc
moved_fits (s ∷ start) (n ∷ shape) (o ∷ offset) e fit =
    let parts = and_parts (nat_lt (s + o + n) (2 ^ 64)) (ends_fit (region_of start shape) offset) fit in
    let below : s + o + n < 2 ^ 64 = ltb-true _ _ parts.0 in
    let here : min (s + o) (2 ^ 64 - 1) + n < 2 ^ 64 = omega arith in
    and_from _ _ (lt-ltb _ _ here) (moved_fits start shape offset (and_parts _ _ e).1 parts.1)

-- a box that is cut
pub cut_is : (start shape end : List ℕ) → is_box start shape ≡ true → length start ≡ length end →
    region_of (mins start end) (differences (mins (ends (region_of start shape)) end) (mins start end)) ≡
    cut_at (region_of start shape) end
cut_is [] [] end e rank = refl
cut_is [] (n ∷ shape) end e rank = cc
cut_is (s ∷ start) [] end e rank = cc
cut_is (s ∷ start) (n ∷ shape) [] e rank = cc
cut_is (s ∷ start) (n ∷ shape) (b ∷ end) e rank =
    ap (λ rest. record { start = min s b; size = min (s + n) b - min s b }
    ∷ rest) (cut_is start shape end (and_parts _ _ e).1 (omega arith))

pub cut_fits : (start shape end : List ℕ) → is_box start shape ≡ true → length start ≡ length end →
    is_box (mins start end) (differences (mins (ends (region_of start shape)) end) (mins start end)) ≡ true
cut_fits [] [] end e rank = refl
cut_fits [] (n ∷ shape) end e rank = cc
cut_fits (s ∷ start) [] end e rank = cc
cut_fits (s ∷ start) (n ∷ shape) [] e rank = cc
cut_fits (s ∷ start) (n ∷ shape) (b ∷ end) e rank =
    let parts = and_parts (nat_lt (s + n) (2 ^ 64)) (is_box start shape) e in
    let below : s + n < 2 ^ 64 = ltb-true _ _ parts.0 in
    let here : min s b + (min (s + n) b - min s b) < 2 ^ 64 = omega arith in
    and_from _ _ (lt-ltb _ _ here) (cut_fits start shape end parts.1 (omega arith))

pub ruleset of_offsets = (length_region, ends_fit_by_zip, ends_fit_rank, moved_is, moved_fits)

pub ruleset of_cuts = (length_region, cut_is, cut_fits)

pub ruleset of_boxes = (is_box_by_zip, same_rank, length_region, starts_region, sizes_region, ends_by_zip)

pub ruleset of_tests = (same_rank, length_region, within_by_zip, ends_within_by_zip, other_rank)

pub ruleset of_moves = (length_region, starts_past_by_zip, starts_past_rank, moved_back_is, moved_back_fits)

pub product_grows : (n p b : ℕ) → 1 ≤ n → b ≤ p → b ≤ n * p
product_grows n p b h k = let m : 1 * p ≤ n * p = mul-le-mul_right p h in omega arith

pub ruleset of_products = (product_grows)

pub ranges_are : (ranges : List (Range ℕ)) →
    region_between (map (λ r. r.start) ranges) (map (λ r. r.end) ranges) ≡ region_of_ranges ranges
ranges_are [] = refl
ranges_are (r ∷ ranges) = ap (λ rest. record { start = r.start; size = r.end - r.start } ∷ rest) (ranges_are ranges)

pub ruleset of_ranges = (ranges_are)

-- a length of 0, and the count
pub no_zero : (n k : ℕ) → nat_eq k 0 ≡ nat_eq (suc n * k) 0
no_zero n zero = grind arith
no_zero n (suc k) = grind arith

pub zero_is : (shape : List ℕ) → list_any (λ n. nat_eq n 0) shape ≡ nat_eq (count_of shape) 0
zero_is [] = refl
zero_is (zero ∷ shape) = grind arith
zero_is (suc n ∷ shape) = let rest : list_any (λ n. nat_eq n 0) shape ≡ nat_eq (count_of shape) 0 = zero_is shape in
    let step = no_zero n (count_of shape) in grind (arith, rest, step)

pub ruleset of_zeros = (zero_is)

-- a whole shape
pub whole_is : (shape : List ℕ) → region_of (replicate (length shape) 0) shape ≡ whole shape
whole_is [] = refl
whole_is (n ∷ shape) = ap (λ rest. record { start = 0; size = n } ∷ rest) (whole_is shape)

pub whole_fits : (shape : List ℕ) → ((k : ℕ) → get_or shape k 0 < 2 ^ 64) →
    is_box (replicate (length shape) 0) shape ≡ true
whole_fits [] a = refl
whole_fits (n ∷ shape) a =
    let here : 0 + n < 2 ^ 64 = omega (arith, a 0) in
    and_from _ _ (lt-ltb _ _ here) (whole_fits shape (λ k. a (suc k)))

pub ruleset of_wholes = (whole_is)

pub zeros_fit : (start shape : List ℕ) → ((k : ℕ) → get_or shape k 0 < 2 ^ 64) → start ≡ replicate (length shape) 0 →
    is_box start shape ≡ true
zeros_fit start shape a e = ap (λ xs. is_box xs shape) e ∙ whole_fits shape a

-- starts and ends, of one rank
pub rising_by_zip : (start end : List ℕ) → length start ≡ length end →
    list_all (λ p. nat_le p.0 p.1) (zip start end) ≡ is_rising start end
rising_by_zip [] [] e = refl
rising_by_zip [] (b ∷ end) e = cc
rising_by_zip (s ∷ start) [] e = cc
rising_by_zip (s ∷ start) (b ∷ end) e = ap (λ rest. nat_le s b && rest) (rising_by_zip start end (omega arith))

pub rising_rank : (start end : List ℕ) → (length start ≡ length end → ⊥) → is_rising start end ≡ false
rising_rank [] [] rank = absurd (rank refl)
rising_rank [] (b ∷ end) rank = refl
rising_rank (s ∷ start) [] rank = refl
rising_rank (s ∷ start) (b ∷ end) rank =
    let rest : is_rising start end ≡ false = rising_rank start end (λ same. rank (ap suc same)) in
    grind (arith, rest)

pub same_rank_rising : (start end : List ℕ) → is_rising start end ≡ true → length start ≡ length end
same_rank_rising [] [] e = refl
same_rank_rising [] (b ∷ end) e = cc
same_rank_rising (s ∷ start) [] e = cc
same_rank_rising (s ∷ start) (b ∷ end) e = let rest : length start ≡ length end =
    same_rank_rising start end (and_parts _ _ e).1 in omega arith

same_test : (b : ℕ) → nat_lt b (2 ^ 64 - 1) ≡ nat_lt (b + 1) (2 ^ 64)
same_test b = grind arith

pub rising_inc_by_zip : (start end : List ℕ) → length start ≡ length end →
    list_all (λ p. nat_le p.0 p.1 && nat_lt p.1 (2 ^ 64 - 1)) (zip start end) ≡ is_rising_inc start end
rising_inc_by_zip [] [] e = refl
rising_inc_by_zip [] (b ∷ end) e = cc
rising_inc_by_zip (s ∷ start) [] e = cc
rising_inc_by_zip (s ∷ start) (b ∷ end) e =
    ap₂ (λ x rest. (nat_le s b && x) && rest) (same_test b) (rising_inc_by_zip start end (omega arith))

pub rising_inc_rank : (start end : List ℕ) → (length start ≡ length end → ⊥) → is_rising_inc start end ≡ false
rising_inc_rank [] [] rank = absurd (rank refl)
rising_inc_rank [] (b ∷ end) rank = refl
rising_inc_rank (s ∷ start) [] rank = refl
rising_inc_rank (s ∷ start) (b ∷ end) rank =
    let rest : is_rising_inc start end ≡ false = rising_inc_rank start end (λ same. rank (ap suc same)) in
    grind (arith, rest)

pub same_rank_rising_inc : (start end : List ℕ) → is_rising_inc start end ≡ true → length start ≡ length end
same_rank_rising_inc [] [] e = refl
same_rank_rising_inc [] (b ∷ end) e = cc
same_rank_rising_inc (s ∷ start) [] e = cc
same_rank_rising_inc (s ∷ start) (b ∷ end) e = let rest : length start ≡ length end =
    same_rank_rising_inc start end (and_parts _ _ e).1 in omega arith

pub ruleset of_rising =
    (rising_by_zip, rising_rank, same_rank_rising, rising_inc_by_zip, rising_inc_rank, same_rank_rising_inc, length-map)

-- the last indices, and the ranges
pub last_are : (region : Region) → map (λ e. e - 1) (ends region) ≡ last_indices region
last_are [] = refl
last_are (span ∷ region) = ap (λ rest. (span.start + span.size - 1) ∷ rest) (last_are region)

pub ranges_are_of : (start shape : List ℕ) → is_box start shape ≡ true → map (λ p. record { start = p.0; end = p.1 })
    (zip start (ends (region_of start shape))) ≡ ranges_of (region_of start shape)
ranges_are_of [] [] e = refl
ranges_are_of [] (n ∷ shape) e = cc
ranges_are_of (s ∷ start) [] e = cc
ranges_are_of (s ∷ start) (n ∷ shape) e =
    ap (λ rest. record { start = s; end = s + n } ∷ rest) (ranges_are_of start shape (and_parts _ _ e).1)

pub ruleset of_ends = (last_are, ranges_are_of)

-- one box in another
pub within_box_by_zip : (start shape other_start other_shape : List ℕ) → is_box start shape ≡ true →
    is_box other_start other_shape ≡ true → length start ≡ length other_start →
    box_in start shape other_start other_shape ≡ is_within (region_of start shape) (region_of other_start other_shape)
unfolding box_in
within_box_by_zip [] [] [] [] a b rank = refl
within_box_by_zip (s ∷ start) [] os on a b rank = cc
within_box_by_zip [] (n ∷ shape) os on a b rank = cc
within_box_by_zip start shape (o ∷ os) [] a b rank = cc
within_box_by_zip start shape [] (m ∷ on) a b rank = cc
within_box_by_zip [] [] (o ∷ os) (m ∷ on) a b rank = cc
within_box_by_zip (s ∷ start) (n ∷ shape) [] [] a b rank = cc
within_box_by_zip (s ∷ start) (n ∷ shape) (o ∷ os) (m ∷ on) a b rank =
    let pa = and_parts (nat_lt (s + n) (2 ^ 64)) (is_box start shape) a in
    let pb = and_parts (nat_lt (o + m) (2 ^ 64)) (is_box os on) b in
    let fa : s + n < 2 ^ 64 = ltb-true _ _ pa.0 in
    let fb : o + m < 2 ^ 64 = ltb-true _ _ pb.0 in
    let ha : min (s + n) (2 ^ 64 - 1) ≡ s + n = omega arith in
    let hb : min (o + m) (2 ^ 64 - 1) ≡ o + m = omega arith in
    ap₂ (λ b rest. b && rest) (ap₂ (λ x y. nat_le o s && nat_le x y) ha hb)
    (within_box_by_zip start shape os on pa.1 pb.1 (omega arith))

pub within_rank : (start shape other_start other_shape : List ℕ) → is_box start shape ≡ true →
    is_box other_start other_shape ≡ true → (length start ≡ length other_start → ⊥) →
    is_within (region_of start shape) (region_of other_start other_shape) ≡ false
within_rank [] [] [] [] a b rank = absurd (rank refl)
within_rank (s ∷ start) [] os on a b rank = cc
within_rank [] (n ∷ shape) os on a b rank = cc
within_rank start shape (o ∷ os) [] a b rank = cc
within_rank start shape [] (m ∷ on) a b rank = cc
within_rank [] [] (o ∷ os) (m ∷ on) a b rank = refl
within_rank (s ∷ start) (n ∷ shape) [] [] a b rank = refl
within_rank (s ∷ start) (n ∷ shape) (o ∷ os) (m ∷ on) a b rank =
    let pa = and_parts (nat_lt (s + n) (2 ^ 64)) (is_box start shape) a in
    let pb = and_parts (nat_lt (o + m) (2 ^ 64)) (is_box os on) b in
    let rest : is_within (region_of start shape) (region_of os on) ≡ false =
    within_rank start shape os on pa.1 pb.1 (λ same. rank (ap suc same)) in
    grind (arith, rest)

pub ruleset of_within = (within_box_by_zip, within_rank)

-- two boxes of one region are one
pub same_boxes : (start shape other_start other_shape : List ℕ) → is_box start shape ≡ true →
    is_box other_start other_shape ≡ true →
    region_of start shape ≡ region_of other_start other_shape → (start ≡ other_start) × (shape ≡ other_shape)
same_boxes start shape os on a b e = (
  sym (starts_region start shape a) ∙ ap (map (λ span. span.start)) e ∙ starts_region os on b,
  sym (sizes_region start shape a) ∙ ap sizes e ∙ sizes_region os on b,
)

-- a list with a 0 in it
pub zero_count : (numbers : List ℕ) (k : ℕ) → k < length numbers → get_or numbers k 0 ≡ 0 → count_of numbers ≡ 0
zero_count [] k h e = absurd (omega arith)
zero_count (n ∷ numbers) zero h e = ap (λ m. m * count_of numbers) e ∙ zero-mul (count_of numbers)
zero_count (n ∷ numbers) (suc k) h e =
    ap (λ m. n * m) (zero_count numbers k (omega arith) e) ∙ mul_comm n 0 ∙ zero-mul n

-- a region's starts and lengths are a box where the lists that it comes from are
pub parts_fit : (start shape : List ℕ) → is_box start shape ≡ true →
    is_box (map (λ span. span.start) (region_of start shape)) (map (λ span. span.size) (region_of start shape)) ≡ true
parts_fit start shape e = ap₂ is_box (starts_region start shape e) (sizes_region start shape e) ∙ e

pub ruleset of_shapes = (sizes_region, parts_fit)

pub region_parts : (region : Region) →
    region_of (map (λ span. span.start) region) (map (λ span. span.size) region) ≡ region
region_parts [] = refl
region_parts (span ∷ region) = ap (λ rest. span ∷ rest) (region_parts region)
