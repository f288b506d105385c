-- Indices below a shape, and the first and the last of some chunks.
use Rattle.std.proofs.Common.{◌≡◌, ℕ, suc, ◌+◌, ◌-◌, ◌<◌, ◌≤◌, true, nat_le, nat_lt, List, []}
use Rattle.std.proofs.Common.{◌∷◌, length, map, zip, refl, ap, arith}
use Rattle.std.proofs.lemmas.Bool.{and_parts, and_from, leb-true, lt-ltb, ltb-true}
use Rattle.zarr_model.specs.Region.{Span, Region, count, starts, whole, contains, is_in, ends_within}
use Rattle.zarr_model.proofs.RegionLaws.{span_in, positive_parts}
use Rattle.zarr_model.proofs.Choices.{same_test}
use Rattle.zarrs_array_subset.specs.Boxes.{region_between, region_of_ranges, last_indices}

-- an index is below a length where it is in its span
pub below_is : (i n : ℕ) → nat_lt i n ≡ is_in i (record { start = 0; size = n })
below_is i n = same_test (nat_lt i n) (is_in i span)
    (λ below. let h : i < n = ltb-true i n below in span_in i span (omega arith) (omega (arith, h)))
    (λ inside. let parts = and_parts (nat_le 0 i) (nat_lt i (0 + n)) inside in
    let h : i < 0 + n = ltb-true i (0 + n) parts.1 in lt-ltb i n (omega (arith, h)))
  where
    span : Span
    span = record { start = 0; size = n }

pub ruleset of_indices = (below_is)

pub inside_rank : (shape indices : List ℕ) → contains (whole shape) indices ≡ true → length indices ≡ length shape
inside_rank [] [] h = refl
inside_rank [] (i ∷ indices) h = cc
inside_rank (n ∷ shape) [] h = cc
inside_rank (n ∷ shape) (i ∷ indices) h = ap suc (inside_rank shape indices
    (and_parts (is_in i (record { start = 0; size = n })) (contains (whole shape) indices) h).1)

pub ranges_between : (start end : List ℕ) →
    region_of_ranges (map (λ p. record { start = p.0; end = p.1 }) (zip start end)) ≡ region_between start end
ranges_between [] end = refl
ranges_between (s ∷ start) [] = refl
ranges_between (s ∷ start) (e ∷ end) = ap (λ r. record { start = s; size = e - s } ∷ r) (ranges_between start end)

pub first_chunk : (shape : List ℕ) (chunks : Region) → 0 < count chunks → ends_within chunks shape ≡ true →
    contains (whole shape) (starts chunks) ≡ true
first_chunk [] [] some e = refl
first_chunk [] (span ∷ chunks) some e = cc
first_chunk (n ∷ shape) [] some e = cc
first_chunk (n ∷ shape) (span ∷ chunks) some e =
    let inner = and_parts (nat_le (span.start + span.size) n) (ends_within chunks shape) e in
    let f : (0 < span.size) × (0 < count chunks) = positive_parts span chunks some in
    let end : span.start + span.size ≤ n = leb-true _ _ inner.0 in
    and_from _ _ (span_in span.start (record { start = 0; size = n }) (omega arith) (omega (arith, f.0)))
    (first_chunk shape chunks f.1 inner.1)

pub last_chunk : (shape : List ℕ) (chunks : Region) → 0 < count chunks → ends_within chunks shape ≡ true →
    contains (whole shape) (last_indices chunks) ≡ true
last_chunk [] [] some e = refl
last_chunk [] (span ∷ chunks) some e = cc
last_chunk (n ∷ shape) [] some e = cc
last_chunk (n ∷ shape) (span ∷ chunks) some e =
    let inner = and_parts (nat_le (span.start + span.size) n) (ends_within chunks shape) e in
    let f : (0 < span.size) × (0 < count chunks) = positive_parts span chunks some in
    let end : span.start + span.size ≤ n = leb-true _ _ inner.0 in
    and_from _ _ (span_in (span.start + span.size - 1) (record { start = 0; size = n }) (omega arith)
    (omega (arith, f.0))) (last_chunk shape chunks f.1 inner.1)

pub ruleset of_chunks = (ranges_between, first_chunk, last_chunk)
