-- Facts on ranges as regions.
use Rattle.std.proofs.Common.{◌≡◌, ℕ, zero, suc, ◌-◌, ◌*◌, ◌≤◌, ◌||◌, nat_eq, nat_le, List, [], ◌∷◌}
use Rattle.std.proofs.Common.{length, map, refl, ap, ◌∙◌, arith}
use Rattle.std.specs.List.{list_any}
use Rattle.std.specs.declared.ops.Range.{Range}
use Rattle.std.proofs.lemmas.Bool.{leb-true, le-leb, eqb-true, eq-eqb}
use Rattle.zarr_model.specs.Region.{count, sizes}
use Rattle.zarr_model.proofs.Choices.{same_test}
use Rattle.zarrs_array_subset.specs.Boxes.{region_of_ranges}
use Rattle.zarrs_chunk_grid_indexer.specs.RangeTests.{some_is_empty}

pub lengths_are : (ranges : List (Range ℕ)) →
    map (λ range. range.end - range.start) ranges ≡ sizes (region_of_ranges ranges)
lengths_are [] = refl
lengths_are (r ∷ ranges) = ap (λ rest. (r.end - r.start) ∷ rest) (lengths_are ranges)

pub ruleset of_lists = (lengths_are)

le_zero : (s e : ℕ) → nat_le e s ≡ nat_eq (e - s) 0
le_zero s e = same_test (nat_le e s) (nat_eq (e - s) 0)
    (λ h. let low : e ≤ s = leb-true _ _ h in eq-eqb _ _ (let z : e - s ≡ 0 = omega arith in z))
    (λ h. let none : e - s ≡ 0 = eqb-true _ _ h in le-leb _ _ (let z : e ≤ s = omega arith in z))

times : (d k : ℕ) → (nat_eq d 0 || nat_eq k 0) ≡ nat_eq (d * k) 0
times zero k = grind arith
times (suc d) zero = grind arith
times (suc d) (suc k) = grind arith

empty_range : (s e k : ℕ) → (nat_le e s || nat_eq k 0) ≡ nat_eq ((e - s) * k) 0
empty_range s e k = ap (λ b. b || nat_eq k 0) (le_zero s e) ∙ times (e - s) k

pub empty_by_any : (ranges : List (Range ℕ)) → some_is_empty ranges ≡ nat_eq (count (region_of_ranges ranges)) 0
unfolding some_is_empty
empty_by_any [] = refl
empty_by_any (r ∷ ranges) =
    let rest : list_any (λ range. nat_le range.end range.start) ranges ≡ nat_eq (count (region_of_ranges ranges)) 0 =
    empty_by_any ranges in
    ap (λ b. nat_le r.end r.start || b) rest ∙ empty_range r.start r.end (count (region_of_ranges ranges))

pub ruleset of_empty = (empty_by_any)

pub length_ranges : (ranges : List (Range ℕ)) → length (region_of_ranges ranges) ≡ length ranges
length_ranges [] = refl
length_ranges (r ∷ ranges) = ap suc (length_ranges ranges)

pub ruleset of_rank = (length_ranges)
