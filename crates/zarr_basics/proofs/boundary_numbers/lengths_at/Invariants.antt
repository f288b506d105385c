use Rattle.std.proofs.Common.{◌≡◌, take, map}
use Rattle.std.specs.Int.NonZero.{non_zero_u64_get}
use Rattle.zarr_basics.specs.Axes.{lengths_at}
use Rattle.zarr_basics.proofs.boundary_numbers.lengths_at.Given as goal

abbrev pub invariant-loop-k : goal.invariant-loop-k
invariant-loop-k l = map non_zero_u64_get l.lengths.items ≡ take l.k (lengths_at l.axes l.chunk)
