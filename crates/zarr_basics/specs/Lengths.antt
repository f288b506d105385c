-- Lengths of chunks as numbers.
use Rattle.std.specs.Prelude.{ℕ, List, map}
use Rattle.std.specs.declared.num.NonZeroU64.{NonZeroU64}
use Rattle.std.specs.Int.NonZero.{non_zero_u64_get}

-- lengths that are not 0 as numbers
abbrev pub nonzeros : List NonZeroU64 → List ℕ
nonzeros lengths = map non_zero_u64_get lengths
