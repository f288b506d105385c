-- Where the chunks of a regular grid end.
use Rattle.std.specs.Prelude.{ℕ, ◌*◌, ◌^◌, Bool, true, ◌&&◌, nat_lt, List, ◌∷◌}

-- the last chunk of each dimension ends within 64 bits
abbrev pub chunk_ends_fit : List ℕ → List ℕ → Bool
chunk_ends_fit (n ∷ counts) (p ∷ lengths) = nat_lt (n * p) (2 ^ 64) && chunk_ends_fit counts lengths
chunk_ends_fit _ _ = true
