-- Tests of ranges, place by place, as iterators make them. They are closed, so that a lemma applies to
-- them by its name.
use Rattle.std.specs.Prelude.{ℕ, ◌+◌, ◌-◌, ◌^◌, ◌&&◌, Bool, nat_eq, nat_le, nat_lt, min, max, List, zip}
use Rattle.std.specs.List.{list_all, list_any}
use Rattle.std.specs.declared.ops.Range.{Range}

unfoldable pub some_is_empty : List (Range ℕ) → Bool
some_is_empty ranges = list_any (λ range. nat_le range.end range.start) ranges

unfoldable pub are_in_ranges : List (Range ℕ) → List ℕ → Bool
are_in_ranges ranges indices =
    list_all (λ p. nat_le p.0.start p.1 && nat_lt p.1 p.0.end) (zip ranges indices)

unfoldable pub end_in_shape : List (Range ℕ) → List ℕ → Bool
end_in_shape ranges shape = list_all (λ p. nat_le (max p.0.start p.0.end) p.1) (zip ranges shape)

unfoldable pub are_in_box : List (Range ℕ) → List ℕ → List ℕ → Bool
are_in_box ranges start shape =
    list_all (λ p. nat_le p.0.1 p.0.0.start
    && nat_le (max p.0.0.start p.0.0.end) (min (p.0.1 + p.1) (2 ^ 64 - 1)))
    (zip (zip ranges start) shape)

unfoldable pub are_box : List (Range ℕ) → List ℕ → List ℕ → Bool
are_box ranges start shape =
    list_all (λ p. nat_eq p.0.0.start p.0.1 && nat_eq (p.0.0.end - p.0.0.start) p.1)
    (zip (zip ranges start) shape)
