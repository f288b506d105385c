-- Overlaps, offsets, and linear indices and back.
use Rattle.std.proofs.Common.{◌≡◌, ℕ, ◌+◌, ◌-◌, ◌*◌, ◌<◌, ◌≤◌, ◌^◌, ◌&&◌, true, nat_le, nat_lt, min, max}
use Rattle.std.proofs.Common.{List, [], ◌∷◌, length, Some, None, refl, sym, ap, ap₂, subst, ◌∙◌, arith}
use Rattle.std.proofs.lemmas.Bool.{and_parts, and_from, leb-true, ltb-true, lt-ltb, cond-true}
use Rattle.zarr_model.specs.Region.{Span, Region, count, count_of, whole, contains, is_in, linear_index, tuple_at}
use Rattle.zarr_model.specs.Region.{shared_span, sizes, starts}
use Rattle.zarr_model.proofs.RegionLaws.{span_in, tuple_at-place, place-tuple_at, contains-tuple_at, sizes_whole}
use Rattle.zarr_model.proofs.RegionLaws.{ends_of_span, first_is}
use Rattle.zarr_model.proofs.Choices.{same_test, swap_tests}
use Rattle.zarrs_array_subset.specs.Boxes.{contains_front, ends_fit, is_box, moved, moved_back, overlap_of, starts_past}
use Rattle.zarrs_array_subset.specs.Ravel.{count_front, place_front, is_below, raveled}

-- an index is in the shared span exactly where it is in both
shared_is_both : (i : ℕ) (a b : Span) → is_in i (shared_span a b) ≡ (is_in i a && is_in i b)
shared_is_both i a b = same_test (is_in i (shared_span a b)) (is_in i a && is_in i b)
    (λ h. let e : (max a.start b.start ≤ i) × (i < max a.start
    b.start + (min (a.start + a.size) (b.start + b.size) - max a.start b.start)) = ends_of_span i (shared_span a b) h in
    and_from _ _ (span_in i a (omega arith) (omega arith)) (span_in i b (omega arith) (omega arith)))
    (λ h. let p = and_parts (is_in i a) (is_in i b) h in
    let x : (a.start ≤ i) × (i < a.start + a.size) = ends_of_span i a p.0 in
    let y : (b.start ≤ i) × (i < b.start + b.size) = ends_of_span i b p.1 in
    span_in i (shared_span a b) (omega arith) (omega arith))

-- the overlap of two boxes of one rank contains a tuple of that rank exactly where both do
pub overlap_is_both : (a b : Region) (tuple : List ℕ) → length a ≡ length b →
    contains (overlap_of a b) tuple ≡ (contains a tuple && contains b tuple)
overlap_is_both [] [] [] e = refl
overlap_is_both [] [] (i ∷ tuple) e = refl
overlap_is_both [] (y ∷ b) tuple e = absurd (omega arith)
overlap_is_both (x ∷ a) [] tuple e = absurd (omega arith)
overlap_is_both (x ∷ a) (y ∷ b) [] e = refl
overlap_is_both (x ∷ a) (y ∷ b) (i ∷ tuple) e =
    ap₂ (λ p q. p && q) (shared_is_both i x y) (overlap_is_both a b tuple (omega arith))
    ∙ swap_tests (is_in i x) (is_in i y) (contains a tuple) (contains b tuple)

-- the same of indices as far as they go
pub front_is_both : (a b : Region) (indices : List ℕ) → length a ≡ length b →
    contains_front (overlap_of a b) indices ≡ (contains_front a indices && contains_front b indices)
front_is_both [] [] indices e = refl
front_is_both [] (y ∷ b) indices e = absurd (omega arith)
front_is_both (x ∷ a) [] indices e = absurd (omega arith)
front_is_both (x ∷ a) (y ∷ b) [] e = refl
front_is_both (x ∷ a) (y ∷ b) (i ∷ indices) e =
    ap₂ (λ p q. p && q) (shared_is_both i x y) (front_is_both a b indices (omega arith))
    ∙ swap_tests (is_in i x) (is_in i y) (contains_front a indices) (contains_front b indices)

pub undoes : (box : Region) (offset : List ℕ) → starts_past box offset ≡ true →
    moved (moved_back box offset) offset ≡ box
undoes [] [] h = refl
undoes [] (o ∷ offset) h = cc
undoes (span ∷ box) [] h = cc
undoes (span ∷ box) (o ∷ offset) h =
    let parts = and_parts (nat_le o span.start) (starts_past box offset) h in
    let low : o ≤ span.start = leb-true _ _ parts.0 in
    let same : span.start - o + o ≡ span.start = omega arith in
    ap₂ (λ s r. record { start = s; size = span.size } ∷ r) same (undoes box offset parts.1)

front_of : (shape tuple : List ℕ) → contains (whole shape) tuple ≡ true → (is_below shape tuple ≡ true) ×
    (place_front shape tuple ≡ linear_index shape tuple) × (count_front shape tuple ≡ count (whole shape))
front_of [] [] h = (refl, refl, refl)
front_of [] (i ∷ tuple) h = cc
front_of (n ∷ shape) [] h = cc
front_of (n ∷ shape) (i ∷ tuple) h =
    let parts = and_parts (is_in i (record { start = 0; size = n })) (contains (whole shape) tuple) h in
    let rest = front_of shape tuple parts.1 in
    let same : i ≡ i - 0 = omega arith in (
      and_from _ _ (lt-ltb _ _ (first_is i n parts.0)) rest.0,
      ap₂ (λ x y. x + y) (ap₂ (λ x y. x * y) same rest.2) rest.1,
      ap (λ c. n * c) rest.2,
    )

pub ravel_tuples : (shape tuple : List ℕ) → contains (whole shape) tuple ≡ true → (raveled shape tuple ≡
    Some (linear_index shape tuple)) × (tuple_at (whole shape) (linear_index shape tuple) ≡ tuple)
ravel_tuples shape tuple h =
    let f = front_of shape tuple h in (
      cond-true (is_below shape tuple) (Some (place_front shape tuple)) None f.0 ∙ ap Some f.1,
      tuple_at-place (whole shape) tuple h,
    )

pub ravel_places : (shape : List ℕ) (k : ℕ) → k < count_of shape → raveled shape (tuple_at (whole shape) k) ≡ Some k
ravel_places shape k h =
    let below : k < count (whole shape) = subst (λ ns. k < count_of ns) (sym (sizes_whole shape)) h in
    (ravel_tuples shape (tuple_at (whole shape) k) (contains-tuple_at (whole shape) k below)).0
    ∙ ap Some (place-tuple_at (whole shape) k below)

-- an offset that was taken off may be added
pub undoing_fits : (box : Region) (offset : List ℕ) → starts_past box offset ≡ true →
    is_box (starts box) (sizes box) ≡ true → ends_fit (moved_back box offset) offset ≡ true
undoing_fits [] [] h b = refl
undoing_fits [] (o ∷ offset) h b = cc
undoing_fits (span ∷ box) [] h b = cc
undoing_fits (span ∷ box) (o ∷ offset) h b =
    let parts = and_parts (nat_le o span.start) (starts_past box offset) h in
    let fits = and_parts (nat_lt (span.start + span.size) (2 ^ 64)) (is_box (starts box) (sizes box)) b in
    let low : o ≤ span.start = leb-true _ _ parts.0 in
    let below : span.start + span.size < 2 ^ 64 = ltb-true _ _ fits.0 in
    let here : span.start - o + o + span.size < 2 ^ 64 = omega arith in
    and_from _ _ (lt-ltb _ _ here) (undoing_fits box offset parts.1 fits.1)
