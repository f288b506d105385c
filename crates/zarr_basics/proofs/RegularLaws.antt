-- A regular grid in numbers: how many chunks it has, which chunks meet a box, and where each lies.
use Rattle.std.proofs.Common.{◌≡◌, ℕ, zero, suc, ◌+◌, ◌-◌, ◌*◌, ◌/◌, ◌%◌, ◌<◌, ◌≤◌, ◌^◌, ◌&&◌, true, nat_le}
use Rattle.std.proofs.Common.{nat_lt, min, max, List, [], ◌∷◌, length, refl, sym, ap, ap₂, ◌∙◌, subst, arith}
use Rattle.std.specs.declared.num.NonZeroU64.{NonZeroU64}
use Rattle.std.specs.Int.NonZero.{non_zero_u64_get}
use Rattle.std.proofs.lemmas.Bool.{and_parts, and_from, leb-true, ltb-true, le-leb, lt-ltb}
use Rattle.std.proofs.lemmas.Nat.{le-div, div_below, mul-le, div-mul-add}
use Rattle.std.proofs.Math.Nat.{suc-mul, div-add-mod', mod-lt, mul-le-mul_right, add-mul}
use Rattle.zarr_model.specs.Prelude.{Span, Region, starts, sizes, count, whole, contains, is_in, ends_within}
use Rattle.zarr_model.specs.Prelude.{share_tuple, tuples}
use Rattle.zarr_model.specs.Prelude.{regular_grid, chunks_meeting}
use Rattle.zarr_model.proofs.RegionLaws.{span_in, tuples-empty, positive_parts, ends_of_span}
use Rattle.zarr_model.proofs.MeetingLaws.{AreMeeting, tuples-meeting, chunks_meeting-empty}
use Rattle.zarr_model.proofs.Choices.{same_test, swap_tests}
use Rattle.zarrs_array_subset.specs.Boxes.{region_through, is_box, is_rising_inc}
use Rattle.zarr_basics.specs.Lengths.{nonzeros}
use Rattle.zarr_basics.specs.RegularGrid.{quotients_up, quotients, lasts, chunk_span, chunk_region}

-- the two ways to round a quotient up
rounded_up : (n p : ℕ) → 0 < p → n / p + min 1 (n % p) ≡ (n + (p - 1)) / p
rounded_up n p h = go (n / p) (n % p) (mod-lt n h) ∙ ap (λ m. (m + (p - 1)) / p) (div-add-mod' n p)
  where
    go : (q r : ℕ) → r < p → q + min 1 r ≡ (q * p + r + (p - 1)) / p
    go q zero small = let q_is : (q * p + (p - 1)) / p ≡ q = div-mul-add q p (p - 1) (omega arith) in
        let same : q * p + 0 + (p - 1) ≡ q * p + (p - 1) = omega arith in
        let whole : q + min 1 0 ≡ q = omega arith in
        whole ∙ (sym q_is ∙ ap (λ m. m / p) (sym same))
    go q (suc r) small = let q_is : (suc q * p + r) / p ≡ suc q = div-mul-add (suc q) p r (omega arith) in
        let same : q * p + suc r + (p - 1) ≡ suc q * p + r = omega (arith, suc-mul q p) in
        let whole : q + min 1 (suc r) ≡ suc q = omega arith in
        whole ∙ (sym q_is ∙ ap (λ m. m / p) (sym same))

pub counts_grid : (shape : List ℕ) (lengths : List NonZeroU64) → length shape ≡ length lengths →
    quotients_up shape lengths ≡ (regular_grid shape (nonzeros lengths)).grid_shape
counts_grid [] [] e = refl
counts_grid [] (p ∷ lengths) e = absurd (omega arith)
counts_grid (n ∷ shape) [] e = absurd (omega arith)
counts_grid (n ∷ shape) (p ∷ lengths) e =
    ap₂ (λ c cs. c ∷ cs) (rounded_up n (non_zero_u64_get p) p.ok) (counts_grid shape lengths (omega arith))

-- the quotient's row holds the index
row_holds : (i p : ℕ) → 0 < p → (i / p * p ≤ i) × (i < i / p * p + p)
row_holds i p some = (omega (arith, div-add-mod' i p), omega (arith, div-add-mod' i p, mod-lt i some))

-- a chunk that starts below an end that is within the length is below the number of chunks
below_count : (c p n : ℕ) → 0 < p → c * p < n → c < (n + (p - 1)) / p
below_count c p n some less = let h : suc c ≤ (n + (p - 1)) / p =
    le-div (suc c) (n + (p - 1)) p some (omega (arith, suc-mul c p)) in omega arith

-- the chunks between are those below the count whose span shares an index
span_meets : (c n : ℕ) (p : NonZeroU64) (span : Span) → 0 < span.size → span.start + span.size ≤ n →
    is_in c (chunk_span p span) ≡ (is_in c (record { start = 0; size = (n + (p.value - 1)) / p.value })
    && nat_lt (max (c * p.value) span.start) (min (c * p.value + p.value) (span.start + span.size)))
span_meets c n p span some end = same_test _ _
    (λ h. let e : (span.start / p.value ≤ c) × (c < span.start / p.value
    + ((span.start + span.size - 1) / p.value - span.start / p.value + 1)) = ends_of_span c (chunk_span p span) h in
    let ordered : span.start / p.value ≤ (span.start + span.size - 1) / p.value = le-div (span.start
    / p.value) (span.start + span.size - 1) p.value p.ok (omega (arith, (row_holds span.start p.value p.ok).0)) in
    let high : c ≤ (span.start + span.size - 1) / p.value = omega arith in
    let last : c * p.value ≤ span.start + span.size - 1 =
    omega (arith, mul-le-mul_right p.value high, (row_holds (span.start + span.size - 1) p.value p.ok).0) in
    let first : span.start < c * p.value + p.value =
    omega (arith, mul-le-mul_right p.value e.0, (row_holds span.start p.value p.ok).1) in
    let shared : max (c * p.value) span.start < min (c * p.value + p.value) (span.start + span.size) =
    omega (arith, p.ok) in
    let counted : c < (n + (p.value - 1)) / p.value = below_count c p.value n p.ok (omega arith) in
    and_from _ _ (span_in c (record { start = 0; size = (n + (p.value - 1)) / p.value }) (omega arith) (omega arith))
    (lt-ltb _ _ shared))
    (λ h. let parts = and_parts (is_in c (record { start = 0; size = (n + (p.value - 1)) / p.value }))
    (nat_lt (max (c * p.value) span.start) (min (c * p.value + p.value) (span.start + span.size))) h in
    let shared : max (c * p.value) span.start < min (c * p.value + p.value) (span.start + span.size) =
    ltb-true _ _ parts.1 in
    let low : span.start / p.value < suc c =
    div_below span.start p.value (suc c) p.ok (omega (arith, suc-mul c p.value)) in
    let high : c ≤ (span.start + span.size - 1) / p.value =
    le-div c (span.start + span.size - 1) p.value p.ok (omega arith) in
    span_in c (chunk_span p span) (omega arith) (omega arith))

pub region_meets : (shape : List ℕ) (lengths : List NonZeroU64) (region : Region) → length shape ≡ length lengths →
    0 < count region → ends_within region shape ≡ true →
    AreMeeting (regular_grid shape (nonzeros lengths)) region (chunk_region lengths region)
region_meets [] [] [] rank some e [] = refl
region_meets [] [] [] rank some e (c ∷ chunk) = refl
region_meets [] (p ∷ lengths) region rank some e chunk = absurd (omega arith)
region_meets (n ∷ shape) [] region rank some e chunk = absurd (omega arith)
region_meets [] [] (span ∷ region) rank some e chunk = cc
region_meets (n ∷ shape) (p ∷ lengths) [] rank some e chunk = cc
region_meets (n ∷ shape) (p ∷ lengths) (span ∷ region) rank some e [] = refl
region_meets (n ∷ shape) (p ∷ lengths) (span ∷ region) rank some e (c ∷ chunk) =
    let inner = and_parts (nat_le (span.start + span.size) n) (ends_within region shape) e in
    let f : (0 < span.size) × (0 < count region) = positive_parts span region some in
    ap₂ (λ a b. a && b) (span_meets c n p span f.0 (leb-true _ _ inner.0))
    (region_meets shape lengths region (omega arith) f.1 inner.1 chunk)
    ∙ swap_tests (is_in c (record { start = 0; size = (n + (p.value - 1)) / p.value }))
    (nat_lt (max (c * p.value) span.start) (min (c * p.value + p.value) (span.start + span.size)))
    (contains (whole (regular_grid shape (nonzeros lengths)).grid_shape) chunk)
    (share_tuple ((regular_grid shape (nonzeros lengths)).chunk_box chunk) region)

below_self : (i p : ℕ) → 0 < p → i / p ≤ i
below_self i p some = let grows : i / p * 1 ≤ i / p * p = mul-le (i / p) 1 (i / p) p (omega arith) (omega arith) in
    omega (arith, (row_holds i p some).0)

pub chunks_are : (region : Region) (lengths : List NonZeroU64) → is_box (starts region) (sizes region) ≡ true →
    length region ≡ length lengths → 0 < count region →
    (region_through (quotients (starts region) lengths) (lasts (starts region) (sizes region) lengths)
    ≡ chunk_region lengths region)
    × (is_rising_inc (quotients (starts region) lengths) (lasts (starts region) (sizes region) lengths) ≡ true)
chunks_are [] [] box rank some = (refl, refl)
chunks_are [] (p ∷ lengths) box rank some = absurd (omega arith)
chunks_are (span ∷ region) [] box rank some = absurd (omega arith)
chunks_are (span ∷ region) (p ∷ lengths) box rank some =
    let parts = and_parts (nat_lt (span.start + span.size) (2 ^ 64)) (is_box (starts region) (sizes region)) box in
    let fit : span.start + span.size < 2 ^ 64 = ltb-true _ _ parts.0 in
    let f : (0 < span.size) × (0 < count region) = positive_parts span region some in
    let last : min (span.start + span.size) (2 ^ 64 - 1) - 1 ≡ span.start + span.size - 1 = omega arith in
    let same : (min (span.start + span.size) (2 ^ 64 - 1) - 1) / p.value ≡ (span.start + span.size - 1) / p.value =
    ap (λ n. n / p.value) last in
    let ordered : span.start / p.value ≤ (span.start + span.size - 1) / p.value = le-div (span.start / p.value)
    (span.start + span.size - 1) p.value p.ok (omega (arith, (row_holds span.start p.value p.ok).0)) in
    let high : (span.start + span.size - 1) / p.value ≤ span.start + span.size - 1 =
    below_self (span.start + span.size - 1) p.value p.ok in
    let here : (min (span.start + span.size) (2 ^ 64 - 1) - 1) / p.value + 1 - span.start / p.value
    ≡ (span.start + span.size - 1) / p.value - span.start / p.value + 1 = omega (arith, same, ordered) in
    let rises : span.start / p.value ≤ (min (span.start + span.size) (2 ^ 64 - 1) - 1) / p.value =
    omega (arith, same, ordered) in
    let end : (min (span.start + span.size) (2 ^ 64 - 1) - 1) / p.value + 1 < 2 ^ 64 = omega (arith, same, high) in
    let rest = chunks_are region lengths parts.1 (omega arith) f.1 in (
      ap₂ (λ a r. record { start = span.start / p.value; size = a } ∷ r) here rest.0,
      and_from _ _ (and_from _ _ (le-leb _ _ rises) (lt-ltb _ _ end)) rest.1,
    )

-- these chunks are within the grid, and no more than the region's tuples
chunks_within : (shape : List ℕ) (lengths : List NonZeroU64) (region : Region) → length shape ≡ length lengths →
    0 < count region → ends_within region shape ≡ true →
    (ends_within (chunk_region lengths region) (regular_grid shape (nonzeros lengths)).grid_shape ≡ true) ×
    (count (chunk_region lengths region) ≤ count region)
chunks_within [] [] [] rank some e = (refl, omega arith)
chunks_within [] (p ∷ lengths) region rank some e = absurd (omega arith)
chunks_within (n ∷ shape) [] region rank some e = absurd (omega arith)
chunks_within [] [] (span ∷ region) rank some e = cc
chunks_within (n ∷ shape) (p ∷ lengths) [] rank some e = cc
chunks_within (n ∷ shape) (p ∷ lengths) (span ∷ region) rank some e =
    let inner = and_parts (nat_le (span.start + span.size) n) (ends_within region shape) e in
    let f : (0 < span.size) × (0 < count region) = positive_parts span region some in
    let end : span.start + span.size ≤ n = leb-true _ _ inner.0 in
    let row = row_holds (span.start + span.size - 1) p.value p.ok in
    let start_row = row_holds span.start p.value p.ok in
    let counted : (span.start + span.size - 1) / p.value < (n + (p.value - 1)) / p.value =
    below_count ((span.start + span.size - 1) / p.value) p.value n p.ok (omega (arith, row.0)) in
    let ordered : span.start / p.value ≤ (span.start + span.size - 1) / p.value =
    le-div (span.start / p.value) (span.start + span.size - 1) p.value p.ok (omega (arith, start_row.0)) in
    let wide : (span.size - 1) * 1 ≤ (span.size - 1) * p.value =
    mul-le (span.size - 1) 1 (span.size - 1) p.value (omega arith) (omega (arith, p.ok)) in
    let whole_size : span.size - 1 + 1 ≡ span.size = omega (arith, f.0) in
    let more : span.size * p.value ≡ (span.size - 1) * p.value + 1 * p.value =
    ap (λ n. n * p.value) (sym whole_size) ∙ add-mul (span.size - 1) 1 p.value in
    let few : (span.start + span.size - 1) / p.value < span.start / p.value + span.size =
    div_below (span.start + span.size - 1) p.value (span.start / p.value + span.size) p.ok
    (omega (arith, start_row.1, wide, more, add-mul (span.start / p.value) span.size p.value, f.0)) in
    let rest = chunks_within shape lengths region (omega arith) f.1 inner.1 in (
      and_from _ _ (le-leb _ _ (omega arith)) rest.0,
      mul-le ((span.start + span.size - 1) / p.value - span.start / p.value + 1) (count (chunk_region lengths region))
          span.size (count region) (omega (arith, few, ordered)) rest.1,
    )

-- so they are the chunks that the region meets
pub chunks_listed : (shape : List ℕ) (lengths : List NonZeroU64) (region box : Region) → length shape ≡ length lengths →
    0 < count region → ends_within region shape ≡ true → box ≡ chunk_region lengths region →
    (tuples box ≡ chunks_meeting (regular_grid shape (nonzeros lengths)) region) × (count box ≤ count region)
chunks_listed shape lengths region box rank some inside is =
    let here = chunks_within shape lengths region rank some inside in (
      ap tuples is ∙ tuples-meeting (regular_grid shape (nonzeros lengths)) region (chunk_region lengths region) here.0
          (region_meets shape lengths region rank some inside),
      subst (λ b. count b ≤ count region) (sym is) here.1,
    )

pub none_listed : (shape : List ℕ) (lengths : List NonZeroU64) (region box : Region) → count region ≡ 0 → box ≡ region →
    (tuples box ≡ chunks_meeting (regular_grid shape (nonzeros lengths)) region) × (count box ≤ count region)
none_listed shape lengths region box none is = (
  ap tuples is
      ∙ (tuples-empty region none ∙ sym (chunks_meeting-empty (regular_grid shape (nonzeros lengths)) region none)),
  subst (λ b. count b ≤ count region) (sym is) (omega arith),
)

pub ruleset of_meeting = (chunks_listed, none_listed)
