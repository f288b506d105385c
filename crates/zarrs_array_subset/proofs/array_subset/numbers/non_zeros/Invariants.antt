use Rattle.std.proofs.Common.{◌≡◌, map, take}
use Rattle.std.specs.Int.NonZero.{non_zero_u64_get}
use Rattle.zarrs_array_subset.proofs.array_subset.numbers.non_zeros.Given as goal

abbrev pub invariant-loop-n : goal.invariant-loop-n
invariant-loop-n l = map non_zero_u64_get l.out.items ≡ take l.n-index l.numbers
