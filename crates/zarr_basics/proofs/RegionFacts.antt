-- The chunks of a grid of boundaries that a region meets.
use Rattle.std.proofs.Common.{◌≡◌, ℕ, ◌+◌, ◌-◌, ◌^◌, ◌<◌, ◌≤◌, ◌&&◌, Bool, true, false, cond, nat_le, nat_lt, min, max}
use Rattle.std.proofs.Common.{List, []}
use Rattle.std.proofs.Common.{◌∷◌, length, take, sum, slice_index, refl, sym, ap, ap₂, ◌∙◌, subst, arith}
use Rattle.std.proofs.lemmas.Bool.{and_parts, and_from, leb-true, ltb-true, le-leb, lt-ltb}
use Rattle.std.proofs.lemmas.Nat.{mul-le}
use Rattle.zarr_model.specs.Prelude.{Region, starts, sizes, count, whole, contains, is_in, ends_within, share_tuple}
use Rattle.zarr_model.specs.Prelude.{tuples}
use Rattle.zarr_model.specs.Prelude.{boundary_grid, boundary_axis, chunks_meeting}
use Rattle.zarr_model.proofs.Choices.{swap_tests}
use Rattle.zarr_model.proofs.MeetingLaws.{AreMeeting, tuples-meeting, chunks_meeting-empty}
use Rattle.zarr_model.proofs.RegionLaws.{tuples-empty, positive_parts}
use Rattle.zarrs_array_subset.specs.Boxes.{region_through, is_box, is_rising_inc}
use Rattle.zarr_model.specs.Prelude.{cuts, are_cut, chunk_at, reached}
use Rattle.zarr_model.proofs.LandingLaws.{cuts_axis}
use Rattle.zarr_model.proofs.AxisLaws.{span_meets, span_within}
use Rattle.zarr_basics.specs.Axes.{axis_lengths, axis_starts, lengths_of, chunks_at, last_chunks, boundary_chunk_region}
use Rattle.zarr_basics.specs.declared.axis.BoundaryAxis.{BoundaryAxis}
use Rattle.zarr_basics.proofs.AxisFacts.{finds_of, axis_below}

region_meets : (shape : List ℕ) (axes : List BoundaryAxis) (region : Region) → are_cut shape (lengths_of axes) ≡ true →
    0 < count region → ends_within region shape ≡ true →
    AreMeeting (boundary_grid (lengths_of axes)) region (boundary_chunk_region axes region)
region_meets [] [] [] cut some e [] = refl
region_meets [] [] [] cut some e (c ∷ chunk) = refl
region_meets [] (axis ∷ axes) region cut some e chunk = cc
region_meets (n ∷ shape) [] region cut some e chunk = cc
region_meets [] [] (span ∷ region) cut some e chunk = cc
region_meets (n ∷ shape) (axis ∷ axes) [] cut some e chunk = cc
region_meets (n ∷ shape) (axis ∷ axes) (span ∷ region) cut some e [] = refl
region_meets (n ∷ shape) (axis ∷ axes) (span ∷ region) cut some e (c ∷ chunk) =
    let own = and_parts (cuts n (axis_lengths axis)) (are_cut shape (lengths_of axes)) cut in
    let inner = and_parts (nat_le (span.start + span.size) n) (ends_within region shape) e in
    let f : (0 < span.size) × (0 < count region) = positive_parts span region some in
    ap₂ (λ a b. a && b)
    (span_meets n (boundary_axis (axis_lengths axis)) (cuts_axis n (axis_lengths axis) own.0)
    (chunk_at (axis_starts axis)) (finds_of n axis own.0) c span f.0 (leb-true _ _ inner.0))
    (region_meets shape axes region own.1 f.1 inner.1 chunk)
    ∙ swap_tests (is_in c (record { start = 0; size = length (axis_lengths axis) }))
    (nat_lt (max (sum (take c (axis_lengths axis))) span.start)
    (min (sum (take c (axis_lengths axis)) + slice_index (axis_lengths axis) c) (span.start + span.size)))
    (contains (whole (boundary_grid (lengths_of axes)).grid_shape) chunk)
    (share_tuple ((boundary_grid (lengths_of axes)).chunk_box chunk) region)

-- these chunks are within the grid, and no more than the region's tuples
chunks_within : (shape : List ℕ) (axes : List BoundaryAxis) (region : Region) → are_cut shape (lengths_of axes) ≡ true →
    0 < count region → ends_within region shape ≡ true →
    (ends_within (boundary_chunk_region axes region) (boundary_grid (lengths_of axes)).grid_shape ≡ true) ×
    (count (boundary_chunk_region axes region) ≤ count region)
chunks_within [] [] [] cut some e = (refl, omega arith)
chunks_within [] (axis ∷ axes) region cut some e = cc
chunks_within (n ∷ shape) [] region cut some e = cc
chunks_within [] [] (span ∷ region) cut some e = cc
chunks_within (n ∷ shape) (axis ∷ axes) [] cut some e = cc
chunks_within (n ∷ shape) (axis ∷ axes) (span ∷ region) cut some e =
    let own = and_parts (cuts n (axis_lengths axis)) (are_cut shape (lengths_of axes)) cut in
    let inner = and_parts (nat_le (span.start + span.size) n) (ends_within region shape) e in
    let f : (0 < span.size) × (0 < count region) = positive_parts span region some in
    let here = span_within n (boundary_axis (axis_lengths axis)) (cuts_axis n (axis_lengths axis) own.0)
    (chunk_at (axis_starts axis)) (finds_of n axis own.0) span f.0 (leb-true _ _ inner.0) in
    let rest = chunks_within shape axes region own.1 f.1 inner.1 in (
      and_from _ _ (le-leb _ _ here.0) rest.0,
      mul-le (chunk_at (axis_starts axis) (span.start + span.size - 1) - chunk_at (axis_starts axis)
          span.start + 1) (count (boundary_chunk_region axes region)) span.size (count region) here.1 rest.1,
    )

-- so they are the chunks that the region meets
pub chunks_listed : (shape : List ℕ) (axes : List BoundaryAxis) (region box : Region) →
    are_cut shape (lengths_of axes) ≡ true → 0 < count region → ends_within region shape ≡ true →
    box ≡ boundary_chunk_region axes region →
    (tuples box ≡ chunks_meeting (boundary_grid (lengths_of axes)) region) × (count box ≤ count region)
chunks_listed shape axes region box cut some inside is =
    let here = chunks_within shape axes region cut some inside in (
      ap tuples is ∙ tuples-meeting (boundary_grid (lengths_of axes)) region (boundary_chunk_region axes region) here.0
          (region_meets shape axes region cut some inside),
      subst (λ b. count b ≤ count region) (sym is) here.1,
    )

pub none_listed : (axes : List BoundaryAxis) (region box : Region) → count region ≡ 0 → box ≡ region →
    (tuples box ≡ chunks_meeting (boundary_grid (lengths_of axes)) region) × (count box ≤ count region)
none_listed axes region box none is = (
  ap tuples is ∙ (tuples-empty region none ∙ sym (chunks_meeting-empty (boundary_grid (lengths_of axes)) region none)),
  subst (λ b. count b ≤ count region) (sym is) (omega arith),
)

-- a later index is in no chunk before
reached_later : (i j : ℕ) → i ≤ j → (starts : List ℕ) → reached i starts ≤ reached j starts
reached_later i j le [] = omega arith
reached_later i j le (start ∷ starts) =
    omega (arith, one (nat_le start i) (nat_le start j) later, reached_later i j le starts)
  where
    later : nat_le start i ≡ true → nat_le start j ≡ true
    later e = let at : start ≤ i = leb-true _ _ e in le-leb _ _ (omega arith)

    one : (a b : Bool) → (a ≡ true → b ≡ true) → cond a 1 0 ≤ cond b 1 0
    one true b h = subst (λ x. 1 ≤ cond x 1 0) (sym (h refl)) (omega arith)
    one false b h = omega arith

-- as two lists of numbers
pub chunks_are : (region : Region) (axes : List BoundaryAxis) → is_box (starts region) (sizes region) ≡ true →
    length region ≡ length axes → 0 < count region →
    (region_through (chunks_at axes (starts region)) (last_chunks axes (starts region) (sizes region))
    ≡ boundary_chunk_region axes region)
    × (is_rising_inc (chunks_at axes (starts region)) (last_chunks axes (starts region) (sizes region)) ≡ true)
chunks_are [] [] box rank some = (refl, refl)
chunks_are [] (axis ∷ axes) box rank some = absurd (omega arith)
chunks_are (span ∷ region) [] box rank some = absurd (omega arith)
chunks_are (span ∷ region) (axis ∷ axes) box rank some =
    let parts = and_parts (nat_lt (span.start + span.size) (2 ^ 64)) (is_box (starts region) (sizes region)) box in
    let fit : span.start + span.size < 2 ^ 64 = ltb-true _ _ parts.0 in
    let f : (0 < span.size) × (0 < count region) = positive_parts span region some in
    let last : min (span.start + span.size) (2 ^ 64 - 1) - 1 ≡ span.start + span.size - 1 = omega arith in
    let same : chunk_at (axis_starts axis) (min (span.start + span.size) (2 ^ 64 - 1) - 1)
    ≡ chunk_at (axis_starts axis) (span.start + span.size - 1) = ap (chunk_at (axis_starts axis)) last in
    let later : reached span.start (axis_starts axis) ≤ reached (span.start + span.size - 1) (axis_starts axis) =
    reached_later span.start (span.start + span.size - 1) (omega arith) (axis_starts axis) in
    let ordered : chunk_at (axis_starts axis) span.start ≤ chunk_at (axis_starts axis) (span.start + span.size - 1) =
    omega (arith, later) in
    let high : chunk_at (axis_starts axis) (span.start + span.size - 1) ≤ span.start + span.size - 1 =
    axis_below axis (span.start + span.size - 1) in
    let here : chunk_at (axis_starts axis) (min (span.start + span.size) (2 ^ 64 - 1) - 1) + 1
    - chunk_at (axis_starts axis) span.start ≡ chunk_at (axis_starts axis) (span.start + span.size - 1)
    - chunk_at (axis_starts axis) span.start + 1 = omega (arith, same, ordered) in
    let rises : chunk_at (axis_starts axis) span.start
    ≤ chunk_at (axis_starts axis) (min (span.start + span.size) (2 ^ 64 - 1) - 1) = omega (arith, same, ordered) in
    let end : chunk_at (axis_starts axis) (min (span.start + span.size) (2 ^ 64 - 1) - 1) + 1 < 2 ^ 64 =
    omega (arith, same, high) in
    let rest = chunks_are region axes parts.1 (omega arith) f.1 in (
      ap₂ (λ a r. record { start = chunk_at (axis_starts axis) span.start; size = a } ∷ r) here rest.0,
      and_from _ _ (and_from _ _ (le-leb _ _ rises) (lt-ltb _ _ end)) rest.1,
    )

pub ruleset of_meeting = (chunks_listed, none_listed)
