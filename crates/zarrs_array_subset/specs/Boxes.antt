-- Boxes as two lists of numbers, and the algebra of regions.
use Rattle.std.specs.Prelude.{ℕ, ◌+◌, ◌-◌, ◌^◌, ◌&&◌, Bool, true, false, nat_le, nat_lt, min, max, List, [], ◌∷◌, map}
use Rattle.std.specs.Prelude.{zip}
use Rattle.std.specs.List.{list_all}
use Rattle.std.specs.declared.ops.Range.{Range}
use Rattle.zarr_model.specs.Region.{Region, is_in}
pub use Rattle.zarr_model.specs.Region.{overlap_of, moved_back}

-- the region with these starts and these lengths
abbrev pub region_of : List ℕ → List ℕ → Region
region_of (s ∷ start) (n ∷ shape) = record { start = s; size = n } ∷ region_of start shape
region_of _ _ = []

-- two lists are a box: of one rank, and each end fits 64 bits
abbrev pub is_box : List ℕ → List ℕ → Bool
is_box [] [] = true
is_box (s ∷ start) (n ∷ shape) = nat_lt (s + n) (2 ^ 64) && is_box start shape
is_box [] (n ∷ shape) = false
is_box (s ∷ start) [] = false

-- a start and an end in each dimension, of one rank, and no end below its start
abbrev pub is_rising : List ℕ → List ℕ → Bool
is_rising [] [] = true
is_rising (s ∷ start) (e ∷ end) = nat_le s e && is_rising start end
is_rising [] (e ∷ end) = false
is_rising (s ∷ start) [] = false

-- the same with ends that are included: the next number still fits 64 bits
abbrev pub is_rising_inc : List ℕ → List ℕ → Bool
is_rising_inc [] [] = true
is_rising_inc (s ∷ start) (e ∷ end) =
    (nat_le s e && nat_lt (e + 1) (2 ^ 64)) && is_rising_inc start end
is_rising_inc [] (e ∷ end) = false
is_rising_inc (s ∷ start) [] = false

-- the region from these starts to these ends
abbrev pub region_between : List ℕ → List ℕ → Region
region_between (s ∷ start) (e ∷ end) = record { start = s; size = e - s } ∷ region_between start end
region_between _ _ = []

-- the region from these starts to these ends, which are included
abbrev pub region_through : List ℕ → List ℕ → Region
region_through (s ∷ start) (e ∷ end) =
    record { start = s; size = e + 1 - s } ∷ region_through start end
region_through _ _ = []

-- the length from each start to the end there, and this much more; an end below its start is at it
abbrev pub lengths_to : ℕ → List ℕ → List ℕ → List ℕ
lengths_to more (e ∷ end) (s ∷ start) = min (e - s + more) (2 ^ 64 - 1) ∷ lengths_to more end start
lengths_to more _ _ = []

-- where each dimension of a region ends
abbrev pub ends : Region → List ℕ
ends region = map (λ span. span.start + span.size) region

-- a region cut at an end in each dimension
abbrev pub cut_at : Region → List ℕ → Region
cut_at (span ∷ region) (e ∷ end) =
    record { start = min span.start e; size = min (span.start + span.size) e - min span.start e }
    ∷ cut_at region end
cut_at _ _ = []

-- a region with an offset added
abbrev pub moved : Region → List ℕ → Region
moved (span ∷ region) (o ∷ offset) =
    record { start = span.start + o; size = span.size } ∷ moved region offset
moved _ _ = []

-- an offset of the same rank that may be taken off
abbrev pub starts_past : Region → List ℕ → Bool
starts_past [] [] = true
starts_past (span ∷ region) (o ∷ offset) = nat_le o span.start && starts_past region offset
starts_past [] (o ∷ offset) = false
starts_past (span ∷ region) [] = false

-- an offset of the same rank that may be added
abbrev pub ends_fit : Region → List ℕ → Bool
ends_fit [] [] = true
ends_fit (span ∷ region) (o ∷ offset) =
    nat_lt (span.start + o + span.size) (2 ^ 64) && ends_fit region offset
ends_fit [] (o ∷ offset) = false
ends_fit (span ∷ region) [] = false

-- whether each index that is given is in the span of its dimension, as far as both lists go
abbrev pub contains_front : Region → List ℕ → Bool
contains_front (span ∷ region) (index ∷ indices) = is_in index span && contains_front region indices
contains_front _ _ = true

-- numbers of two lists, place by place
abbrev pub sums_up : List ℕ → List ℕ → List ℕ
sums_up xs ys = map (λ p. min (p.0 + p.1) (2 ^ 64 - 1)) (zip xs ys)

abbrev pub differences : List ℕ → List ℕ → List ℕ
differences xs ys = map (λ p. p.0 - p.1) (zip xs ys)

abbrev pub maxes : List ℕ → List ℕ → List ℕ
maxes xs ys = map (λ p. max p.0 p.1) (zip xs ys)

abbrev pub mins : List ℕ → List ℕ → List ℕ
mins xs ys = map (λ p. min p.0 p.1) (zip xs ys)

-- tests of three lists, place by place, as a chain makes them. They are closed, so that a lemma
-- applies to them by its name
unfoldable pub are_in : List ℕ → List ℕ → List ℕ → Bool
are_in start shape indices =
    list_all (λ p. nat_le p.0.0 p.1 && nat_lt p.1 (min (p.0.0 + p.0.1) (2 ^ 64 - 1)))
    (zip (zip start shape) indices)

unfoldable pub ends_in_bounds : List ℕ → List ℕ → List ℕ → Bool
ends_in_bounds start shape bounds =
    list_all (λ p. nat_le (min (p.0.0 + p.0.1) (2 ^ 64 - 1)) p.1) (zip (zip start shape) bounds)

unfoldable pub can_move : List ℕ → List ℕ → List ℕ → Bool
can_move start shape offset =
    list_all (λ p. nat_lt (p.0.0 + p.1 + p.0.1) (2 ^ 64)) (zip (zip start shape) offset)

-- the region of ranges; one whose end is below its start has length 0
abbrev pub region_of_ranges : List (Range ℕ) → Region
region_of_ranges ranges =
    map (λ range. record { start = range.start; size = range.end - range.start }) ranges

-- the last index of each dimension of a region whose lengths are not 0
abbrev pub last_indices : Region → List ℕ
last_indices region = map (λ span. span.start + span.size - 1) region

-- each dimension of a region as a range
abbrev pub ranges_of : Region → List (Range ℕ)
ranges_of region = map (λ span. record { start = span.start; end = span.start + span.size }) region

-- whether a region is within another of its rank: each start at least, and each end at most the
-- other's
abbrev pub is_within : Region → Region → Bool
is_within [] [] = true
is_within (a ∷ region) (b ∷ other) =
    (nat_le b.start a.start && nat_le (a.start + a.size) (b.start + b.size))
    && is_within region other
is_within [] (b ∷ other) = false
is_within (a ∷ region) [] = false

-- tests of four lists, and of ranges, as a chain makes them
unfoldable pub box_in : List ℕ → List ℕ → List ℕ → List ℕ → Bool
box_in start shape other_start other_shape =
    list_all (λ p. nat_le p.0.1 p.0.0.0
    && nat_le (min (p.0.0.0 + p.0.0.1) (2 ^ 64 - 1)) (min (p.0.1 + p.1) (2 ^ 64 - 1)))
    (zip (zip (zip start shape) other_start) other_shape)

-- the length from the greater start to the lesser end in each dimension, or 0 where that is none, of
-- the lists of two boxes
unfoldable pub lengths_shared : List ℕ → List ℕ → List ℕ → List ℕ → List ℕ
lengths_shared start shape other_start other_shape =
    map (λ p. min (min (p.0.0.0 + p.0.0.1) (2 ^ 64 - 1)) (min (p.0.1 + p.1) (2 ^ 64 - 1))
    - max p.0.0.0 p.0.1) (zip (zip (zip start shape) other_start) other_shape)
