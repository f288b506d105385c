-- The runs of a region inside a shape: as few intervals of linear indices as cover it.
use Rattle.std.specs.Prelude.{◌≡◌, ℕ, suc, ◌*◌, Bool, true, false, nat_eq, ◌&&◌, if◌then◌else◌, List, [], ◌∷◌, map, flat_map}
use Rattle.std.specs.List.{range_with_len, list_any}
use Rattle.std.specs.List.Sorted.{IsStrictlyIncreasing}
use Rattle.zarr_model.specs.Region.{Span, Region, count, linear_index, tuples}
use Rattle.zarr_model.specs.Cover.{IsLeastCover, linear_indices}

-- a region is the whole of a shape
abbrev pub is_whole : List ℕ → Region → Bool
is_whole [] [] = true
is_whole (n ∷ shape) (span ∷ region) =
    (nat_eq span.start 0 && nat_eq span.size n) && is_whole shape region
is_whole [] (span ∷ region) = false
is_whole (n ∷ shape) [] = false

-- the first index of each span
abbrev pub first_region_of : Region → Region
first_region_of region = map (λ span. record { start = span.start; size = 1 }) region

-- how many dimensions come before those that a run passes through
abbrev pub run_front : List ℕ → Region → ℕ
run_front (n ∷ shape) (span ∷ region) =
    if is_whole shape region then 0 else suc (run_front shape region)
run_front _ _ = 0

-- where runs begin: the dimensions that a run passes through have one index
abbrev pub run_box : List ℕ → Region → Region
run_box (n ∷ shape) (span ∷ region) =
    if is_whole shape region then first_region_of (span ∷ region) else span ∷ run_box shape region
run_box _ _ = []

-- how many indices each run has
abbrev pub run_length : List ℕ → Region → ℕ
run_length (n ∷ shape) (span ∷ region) =
    if is_whole shape region then span.size * count region else run_length shape region
run_length _ _ = 1

-- the runs, in rising order; none where the region has no tuple
abbrev pub runs : List ℕ → Region → List Span
runs shape region =
    if nat_eq (count region) 0 then []
    else map (λ index. record { start = index; size = run_length shape region })
    (linear_indices shape (run_box shape region))

-- the numbers of intervals, one after another
abbrev pub joined : List Span → List ℕ
joined intervals = flat_map (λ interval. range_with_len interval.start interval.size) intervals

-- a number is the linear index of a tuple of a region
abbrev pub is_linear_index : List ℕ → Region → ℕ → Bool
is_linear_index shape region n = list_any (nat_eq n) (linear_indices shape region)

-- the runs of a region inside a shape are its linear indices in order, which rise, and are a least
-- cover of them
pub record CoversLeast (shape : List ℕ) (region : Region) : Type 0 where
  pub in_order : joined (runs shape region) ≡ linear_indices shape region
  pub rising : IsStrictlyIncreasing (linear_indices shape region)
  pub least : IsLeastCover (is_linear_index shape region) (runs shape region)

-- the runs by the tuples at which they begin, each with its length
abbrev pub tuple_runs : List ℕ → Region → List (List ℕ × ℕ)
tuple_runs shape region =
    if nat_eq (count region) 0 then []
    else map (λ tuple. (tuple, run_length shape region)) (tuples (run_box shape region))

-- the length of every run, and 0 where there is none
abbrev pub run_size : List ℕ → Region → ℕ
run_size shape region = if nat_eq (count region) 0 then 0 else run_length shape region

-- a start and a length as an interval
abbrev pub span_of : ℕ × ℕ → Span
span_of run = record { start = run.0; size = run.1 }

-- a tuple and a length as an interval of linear indices
abbrev pub run_span_at : List ℕ → List ℕ × ℕ → Span
run_span_at shape run = record { start = linear_index shape run.0; size = run.1 }
