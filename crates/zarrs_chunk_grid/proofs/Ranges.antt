-- Facts on tests of ranges as regions.
use Rattle.std.proofs.Common.{◌≡◌, ℕ, suc, ◌+◌, ◌-◌, ◌<◌, ◌≤◌, ◌^◌, ◌&&◌, true, false, nat_eq, nat_le, nat_lt, min, max}
use Rattle.std.proofs.Common.{List, [], ◌∷◌, length, map, refl, sym, ap, ap₂, ◌∙◌, arith}
use Rattle.std.specs.List.{zip, list_all}
use Rattle.std.specs.declared.ops.Range.{Range}
use Rattle.std.proofs.lemmas.Bool.{and_parts, and_from, ltb-true, lt-ltb, leb-true, eqb-true, eq-eqb}
use Rattle.zarr_model.specs.Region.{Span, Region, sizes, starts, ends_within, is_in}
use Rattle.zarr_model.proofs.Choices.{same_test}
use Rattle.zarrs_array_subset.specs.Boxes.{contains_front, is_box, is_within, region_of_ranges}
use Rattle.zarrs_chunk_grid_indexer.specs.RangeTests.{are_box, are_in_box, are_in_ranges, end_in_shape}
use Rattle.zarrs_chunk_grid_indexer.proofs.Ranges.{length_ranges}

pub starts_are : (ranges : List (Range ℕ)) → map (λ range. range.start) ranges ≡ starts (region_of_ranges ranges)
starts_are [] = refl
starts_are (r ∷ ranges) = ap (λ rest. r.start ∷ rest) (starts_are ranges)

pub ruleset of_starts = (starts_are)

index_in : (s e i : ℕ) → (nat_le s i && nat_lt i e) ≡ is_in i (record { start = s; size = e - s })
index_in s e i = same_test (nat_le s i && nat_lt i e) (is_in i (record { start = s; size = e - s }))
    (λ h. let p = and_parts (nat_le s i) (nat_lt i e) h in let low : s ≤ i = leb-true _ _ p.0 in
    let high : i < e = ltb-true _ _ p.1 in
    and_from _ _ p.0 (lt-ltb _ _ (let k : i < s + (e - s) = omega arith in k)))
    (λ h. let p = and_parts (nat_le s i) (nat_lt i (s + (e - s))) h in let low : s ≤ i = leb-true _ _ p.0 in
    let high : i < s + (e - s) = ltb-true _ _ p.1 in
    and_from _ _ p.0 (lt-ltb _ _ (let k : i < e = omega arith in k)))

pub contains_by_zip : (ranges : List (Range ℕ)) (indices : List ℕ) →
    are_in_ranges ranges indices ≡ contains_front (region_of_ranges ranges) indices
unfolding are_in_ranges
contains_by_zip [] indices = refl
contains_by_zip (r ∷ ranges) [] = refl
contains_by_zip (r ∷ ranges) (i ∷ indices) =
    ap₂ (λ a b. a && b) (index_in r.start r.end i) (contains_by_zip ranges indices)

end_is : (s e : ℕ) → max s e ≡ s + (e - s)
end_is s e = omega arith

pub ends_by_zip : (ranges : List (Range ℕ)) (shape : List ℕ) → length ranges ≡ length shape →
    end_in_shape ranges shape ≡ ends_within (region_of_ranges ranges) shape
unfolding end_in_shape
ends_by_zip [] [] e = refl
ends_by_zip [] (n ∷ shape) e = cc
ends_by_zip (r ∷ ranges) [] e = cc
ends_by_zip (r ∷ ranges) (n ∷ shape) e =
    ap₂ (λ m b. nat_le m n && b) (end_is r.start r.end) (ends_by_zip ranges shape (omega arith))

pub ends_rank : (ranges : List (Range ℕ)) (shape : List ℕ) → (length ranges ≡ length shape → ⊥) →
    ends_within (region_of_ranges ranges) shape ≡ false
ends_rank [] [] ne = absurd (ne refl)
ends_rank [] (n ∷ shape) ne = refl
ends_rank (r ∷ ranges) [] ne = refl
ends_rank (r ∷ ranges) (n ∷ shape) ne =
    let rest : ends_within (region_of_ranges ranges) shape ≡ false =
    ends_rank ranges shape (λ same. ne (ap suc same)) in
    grind (arith, rest)

pub ruleset of_tests = (contains_by_zip, ends_by_zip, ends_rank)

-- ranges and a box of their rank, by its starts and lengths
pub in_box_by_zip : (ranges : List (Range ℕ)) (other : Region) → is_box (starts other) (sizes other) ≡ true →
    length ranges ≡ length other →
    are_in_box ranges (starts other) (sizes other) ≡ is_within (region_of_ranges ranges) other
unfolding are_in_box
in_box_by_zip [] [] b e = refl
in_box_by_zip [] (o ∷ other) b e = cc
in_box_by_zip (r ∷ ranges) [] b e = cc
in_box_by_zip (r ∷ ranges) (o ∷ other) b e =
    let p = and_parts (nat_lt (o.start + o.size) (2 ^ 64)) (is_box (starts other) (sizes other)) b in
    let fits : o.start + o.size < 2 ^ 64 = ltb-true _ _ p.0 in
    let here : min (o.start + o.size) (2 ^ 64 - 1) ≡ o.start + o.size = omega arith in
    ap₂ (λ x rest. x && rest) (ap₂ (λ x y. nat_le o.start r.start && nat_le x y) (end_is r.start r.end) here)
    (in_box_by_zip ranges other p.1 (omega arith))

pub in_box_rank : (ranges : List (Range ℕ)) (other : Region) → (length ranges ≡ length other → ⊥) →
    is_within (region_of_ranges ranges) other ≡ false
in_box_rank [] [] ne = absurd (ne refl)
in_box_rank [] (o ∷ other) ne = refl
in_box_rank (r ∷ ranges) [] ne = refl
in_box_rank (r ∷ ranges) (o ∷ other) ne =
    let rest : is_within (region_of_ranges ranges) other ≡ false =
    in_box_rank ranges other (λ same. ne (ap suc same)) in
    grind (arith, rest)

pub ruleset of_boxes = (in_box_by_zip, in_box_rank)

pub is_box_by_zip : (ranges : List (Range ℕ)) (other : Region) → length ranges ≡ length other →
    are_box ranges (starts other) (sizes other) ≡ true → region_of_ranges ranges ≡ other
unfolding are_box
is_box_by_zip [] [] e h = refl
is_box_by_zip [] (o ∷ other) e h = cc
is_box_by_zip (r ∷ ranges) [] e h = cc
is_box_by_zip (r ∷ ranges) (o ∷ other) e h =
    let p = and_parts (nat_eq r.start o.start && nat_eq (r.end - r.start) o.size) (list_all (λ p. nat_eq p.0.0.start
    p.0.1 && nat_eq (p.0.0.end - p.0.0.start) p.1) (zip (zip ranges (starts other)) (sizes other))) h in
    let q = and_parts (nat_eq r.start o.start) (nat_eq (r.end - r.start) o.size) p.0 in
    ap₂ (λ (span : Span) (rest : Region). span ∷ rest) (ap₂ (λ s n. record { start = s; size = n }) (eqb-true _ _ q.0)
    (eqb-true _ _ q.1)) (is_box_by_zip ranges other (omega arith) p.1)

self_box : (ranges : List (Range ℕ)) →
    are_box ranges (starts (region_of_ranges ranges)) (sizes (region_of_ranges ranges)) ≡ true
unfolding are_box
self_box [] = refl
self_box (r ∷ ranges) = and_from _ _
    (and_from _ _ (eq-eqb r.start r.start refl) (eq-eqb (r.end - r.start) (r.end - r.start) refl)) (self_box ranges)

pub box_of_itself : (ranges : List (Range ℕ)) (other : Region) → region_of_ranges ranges ≡ other →
    (length ranges ≡ length other) × (are_box ranges (starts other) (sizes other) ≡ true)
box_of_itself ranges other e = (
  sym (length_ranges ranges) ∙ ap length e,
  sym (ap (λ r. are_box ranges (starts r) (sizes r)) e) ∙ self_box ranges,
)
