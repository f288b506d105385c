-- Bands of an array: what its chunks cover that have one first index.
use Rattle.std.specs.Prelude.{ℕ, ◌-◌, ◌==◌, Bool, min, if◌then◌else◌, List, [], ◌∷◌, length, map, replicate}
use Rattle.std.specs.List.{list_any, range_with_len}
use Rattle.zarrs_codec_traits.specs.Prelude.{Span, Region, whole, share_tuple, Grid}

-- the part of a span below a length
abbrev pub span_inside : ℕ → Span → Span
span_inside n span = record { start = min span.start n; size = min span.size (n - span.start) }

-- the span of a region in its first dimension
abbrev pub first_span : Region → Span
first_span [] = record { start = 0; size = 0 }
first_span (span ∷ region) = span

-- the length of the first dimension
abbrev pub first_length : List ℕ → ℕ
first_length [] = 0
first_length (n ∷ shape) = n

-- what the chunks with a first index cover: their part inside the array there, and all of each
-- other dimension
abbrev pub band : Grid → ℕ → List ℕ → ℕ → Region
band grid n shape index =
    span_inside n (first_span (grid.chunk_box (index ∷ replicate (length shape) 0))) ∷ whole shape

-- an array with no elements has no band, one without dimensions has one, and any other one has one
-- for each first index of a chunk
abbrev pub bands : List ℕ → Grid → List Region
bands [] grid = [] ∷ []
bands (n ∷ shape) grid =
    if list_any (λ length. length == 0) (n ∷ shape) then []
    else map (band grid n shape) (range_with_len 0 (first_length grid.grid_shape))

-- a chunk shares a tuple with some band
abbrev pub meets_band : Grid → List Region → List ℕ → Bool
meets_band grid list chunk = list_any (share_tuple (grid.chunk_box chunk)) list
