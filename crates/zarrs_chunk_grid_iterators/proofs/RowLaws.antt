-- Rows, along which linear indices rise by one step.
use Rattle.std.proofs.Common.{◌≡◌, ℕ, ◌+◌, ◌-◌, ◌*◌, ◌/◌, ◌%◌, ◌<◌, ◌^◌, true, nat_lt, List, [], ◌∷◌, length, take}
use Rattle.std.proofs.Common.{drop, get_or, sym, ap, ap₂, ◌∙◌, subst, subst₂, arith}
use Rattle.std.proofs.lemmas.Bool.{and_parts}
use Rattle.std.proofs.Math.Nat.{div-add-mod', add-mul}
use Rattle.std.proofs.lemmas.Nat.{div-mul-add, mod-mul-add}
use Rattle.zarr_model.specs.Region.{Region, count, count_of, whole, ends_within, tuple_at, linear_index}
use Rattle.zarr_model.proofs.RegionLaws.{count_whole}
use Rattle.zarrs_array_subset.specs.Boxes.{region_of, is_box}
use Rattle.zarrs_array_subset.proofs.Ravels.{rest_count, count_region, tail_is}
use Rattle.zarrs_chunk_grid_iterators.specs.Places.{linear_at, PlacesRise}
use Rattle.zarrs_chunk_grid_iterators.proofs.Linears.{linear_below}

-- where what is below an axis is one tuple, its row goes along the axis
along : (s c w place k : ℕ) (f : ℕ → ℕ) → c ≡ 1 →
    (s + (place + k) / c - 0) * w + f ((place + k) % c) ≡ (s + place / c - 0) * w + f (place % c) + k * w
along s c w place k f e = subst (λ c.
    (s + (place + k) / c - 0) * w + f ((place + k) % c) ≡ (s + place / c - 0) * w + f (place % c) + k * w) (sym e) here
  where
    here : (s + (place + k) / 1 - 0) * w + f ((place + k) % 1) ≡ (s + place / 1 - 0) * w + f (place % 1) + k * w
    here =
        let far : s + (place + k) / 1 - 0 ≡ (s + place / 1 - 0) + k = omega arith in
        let same : (place + k) % 1 ≡ place % 1 = omega arith in
        let sum : ((s + place / 1 - 0) + k) * w ≡ (s + place / 1 - 0) * w + k * w = add-mul (s + place / 1 - 0) k w in
        omega (arith, ap (λ a. a * w) far ∙ sum, ap f same)

-- else it stays in its row of what is below
inside : (s c w place k : ℕ) (f : ℕ → ℕ) → place % c + k < c →
    (s + (place + k) / c - 0) * w + f ((place + k) % c) ≡ (s + place / c - 0) * w + f (place % c + k)
inside s c w place k f h =
    let parts : place + k ≡ place / c * c + (place % c + k) = omega (arith, div-add-mod' place c) in
    let row : (place + k) / c ≡ place / c = ap (λ n. n / c) parts ∙ div-mul-add (place / c) c (place % c + k) h in
    let column : (place + k) % c ≡ place % c + k =
    ap (λ n. n % c) parts ∙ mod-mul-add (place / c) c (place % c + k) h in
    ap₂ (λ a b. (s + a - 0) * w + f b) row column

-- so linear indices rise in both cases
rises_along : (s n m place : ℕ) (region : Region) (arr : List ℕ) (index left : ℕ) → count region ≡ 1 →
    index ≡ linear_at (m ∷ arr) (record { start = s; size = n } ∷ region) place →
    PlacesRise (m ∷ arr) (record { start = s; size = n } ∷ region) (place + 1) index (count (whole arr)) left
rises_along s n m place region arr index left one e k h =
    let go = along s (count region) (count (whole arr)) place (k + 1) (linear_at arr region) one in
    let more : place + 1 + k ≡ place + (k + 1) = omega arith in
    ap (linear_at (m ∷ arr) (record { start = s; size = n } ∷ region)) more ∙ go
    ∙ ap (λ i. i + (k + 1) * count (whole arr)) (sym e)

rises_inside : (s n m place : ℕ) (region : Region) (arr : List ℕ) (index rest step left : ℕ) →
    place % count region + left < count region →
    index ≡ (s + place / count region - 0) * count (whole arr) + rest →
    PlacesRise arr region (place % count region + 1) rest step left →
    PlacesRise (m ∷ arr) (record { start = s; size = n } ∷ region) (place + 1) index step left
rises_inside s n m place region arr index rest step left within e below k h =
    let go = inside s (count region) (count (whole arr)) place (k + 1) (linear_at arr region) (omega arith) in
    let more : place + 1 + k ≡ place + (k + 1) = omega arith in
    let less : place % count region + (k + 1) ≡ place % count region + 1 + k = omega arith in
    let there : linear_at arr region (place % count region + (k + 1)) ≡ rest + (k + 1) * step =
    ap (linear_at arr region) less ∙ below k h in
    ap (linear_at (m ∷ arr) (record { start = s; size = n } ∷ region)) more ∙ go ∙ omega (arith, there, e)

-- the same of an axis and what is below it, as slices have them
pub along_axis : (start shape arr : List ℕ) (place total index stride left : ℕ) → is_box start shape ≡ true →
    0 < length start → 0 < length shape → 0 < length arr →
    total ≡ count_of shape → place < total → total / get_or shape 0 0 ≡ 1 →
    index ≡ linear_index arr (tuple_at (region_of start shape) place) →
    stride ≡ count_of (take (length arr - 1) (drop 1 arr)) →
    PlacesRise arr (region_of start shape) (place + 1) index stride left
along_axis [] shape arr place total index stride left box a b c full below one i st = absurd (omega arith)
along_axis (s ∷ start) [] arr place total index stride left box a b c full below one i st = absurd (omega arith)
along_axis (s ∷ start) (n ∷ shape) [] place total index stride left box a b c full below one i st = absurd (omega arith)
along_axis (s ∷ start) (n ∷ shape) (m ∷ arr) place total index stride left box a b c full below one i st =
    let p = and_parts (nat_lt (s + n) (2 ^ 64)) (is_box start shape) box in
    let single : count_of shape ≡ 1 =
    sym (ap (λ k. k / n) full ∙ rest_count n (count_of shape) (omega (arith, full, below))) ∙ one in
    let same_stride : stride ≡ count (whole arr) = st ∙ ap count_of (tail_is m arr) ∙ sym (count_whole arr) in
    subst (λ w. PlacesRise (m ∷ arr) (region_of (s ∷ start) (n ∷ shape)) (place + 1) index w left) (sym same_stride)
    (rises_along s n m place (region_of start shape) arr index left (count_region start shape p.1 ∙ single) i)

pub inside_axis : (start shape arr : List ℕ) (place total rest step stride left : ℕ) → is_box start shape ≡ true →
    0 < length start → 0 < length shape → 0 < length arr →
    total ≡ count_of shape → place < total → stride ≡ count_of (take (length arr - 1) (drop 1 arr)) →
    place % (total / get_or shape 0 0) + left < total / get_or shape 0 0 →
    PlacesRise (take (length arr - 1) (drop 1 arr)) (region_of (take (length start - 1) (drop 1 start))
    (take (length shape - 1) (drop 1 shape))) (place % (total / get_or shape 0 0) + 1) rest step left →
    PlacesRise arr (region_of start shape)
    (place + 1) ((get_or start 0 0 + place / (total / get_or shape 0 0)) * stride + rest) step left
inside_axis [] shape arr place total rest step stride left box a b c full below st within r = absurd (omega arith)
inside_axis (s ∷ start) [] arr place total rest step stride left box a b c full below st within r = absurd (omega arith)
inside_axis (s ∷ start) (n ∷ shape) [] place total rest step stride left box a b c full below st within r =
    absurd (omega arith)
inside_axis (s ∷ start) (n ∷ shape) (m ∷ arr) place total rest step stride left box a b c full below st within r =
    let p = and_parts (nat_lt (s + n) (2 ^ 64)) (is_box start shape) box in
    let one : total / n ≡ count (region_of start shape) = ap (λ k. k / n) full
    ∙ rest_count n (count_of shape) (omega (arith, full, below)) ∙ sym (count_region start shape p.1) in
    let same_stride : stride ≡ count (whole arr) = st ∙ ap count_of (tail_is m arr) ∙ sym (count_whole arr) in
    let zip : s + place / count (region_of start shape) ≡ s + place / count (region_of start shape) - 0 = omega arith in
    let same_index =
    ap₂ (λ x y. (s + place / x) * y + rest) one same_stride ∙ ap (λ x. x * count (whole arr) + rest) zip in
    let rows : PlacesRise arr (region_of start shape) (place % (total / n) + 1) rest step left =
    subst₂ (λ x y. PlacesRise x y (place % (total / n) + 1) rest step left) (tail_is m arr)
    (ap₂ region_of (tail_is s start) (tail_is n shape)) r in
    rises_inside s n m place (region_of start shape) arr ((s + place / (total / n)) * stride + rest) rest step left
    (subst (λ k. place % k + left < k) one within) same_index
    (subst (λ k. PlacesRise arr (region_of start shape) (place % k + 1) rest step left) one rows)

-- a row of one place
pub none_rise : (shape : List ℕ) (region : Region) (place index step left : ℕ) → left ≡ 0 →
    PlacesRise shape region place index step left
none_rise shape region place index step left none k h = absurd (omega arith)

-- the next place of a row
pub next_index : (shape : List ℕ) (region : Region) (place index step left : ℕ) →
    PlacesRise shape region place index step left → 0 < left → index + step ≡ linear_at shape region place
next_index shape region place index step left r h =
    let there : linear_at shape region (place + 0) ≡ index + (0 + 1) * step = r 0 h in
    let here : place + 0 ≡ place = omega arith in
    omega (arith, there, ap (linear_at shape region) here)

pub next_below : (shape : List ℕ) (region : Region) (place index step left total : ℕ) →
    PlacesRise shape region place index step left → 0 < left →
    ends_within region shape ≡ true → total ≡ count region → place < total → index + step < count_of shape
next_below shape region place index step left total r h e whole below =
    subst (λ i. i < count_of shape) (sym (next_index shape region place index step left r h))
    (linear_below region shape place e (omega arith))

pub next_rises : (shape : List ℕ) (region : Region) (place index step left : ℕ) → PlacesRise shape region place index
    step left → 0 < left → PlacesRise shape region (place + 1) (index + step) step (left - 1)
next_rises shape region place index step left r h k less =
    let there : linear_at shape region (place + (k + 1)) ≡ index + (k + 1 + 1) * step = r (k + 1) (omega arith) in
    let more : place + 1 + k ≡ place + (k + 1) = omega arith in
    let sum : (k + 1 + 1) * step ≡ (k + 1) * step + 1 * step = add-mul (k + 1) 1 step in
    ap (linear_at shape region) more ∙ omega (arith, there, sum)

pub ruleset of_next = (next_index, next_below, next_rises)

pub ruleset of_none = (none_rise)
