-- What is tested in place of every chunk of a grid.
use Rattle.std.specs.Prelude.{ℕ, ◌^◌, Bool, nat_lt, if◌then◌else◌, List, Option, Some, None}
use Rattle.std.specs.List.{list_all}

-- a number, if it has 64 bits
abbrev pub in_64_bits : ℕ → Option ℕ
in_64_bits n = if nat_lt n (2 ^ 64) then Some n else None

-- there is a chunk in each dimension
abbrev pub are_some : List ℕ → Bool
are_some counts = list_all (λ n. nat_lt 0 n) counts
