-- The largest lengths of a grid of boundaries.
use Rattle.std.specs.Prelude.{ℕ, ◌^◌, max, Bool, true, ◌&&◌, nat_lt, List, [], ◌∷◌, map, sum}

-- the largest of some lengths
abbrev pub largest : List ℕ → ℕ
largest [] = 0
largest (n ∷ lengths) = max n (largest lengths)

-- that of each dimension
abbrev pub largest_lengths : List (List ℕ) → List ℕ
largest_lengths lengths = map largest lengths

-- the last chunk of each dimension ends within 64 bits
abbrev pub sums_fit : List (List ℕ) → Bool
sums_fit [] = true
sums_fit (own ∷ lengths) = nat_lt (sum own) (2 ^ 64) && sums_fit lengths
