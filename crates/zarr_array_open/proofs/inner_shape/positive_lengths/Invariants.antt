use Rattle.std.proofs.Common.{◌≡◌, take}
use Rattle.zarr_basics.specs.Lengths.{nonzeros}
use Rattle.zarr_array_open.proofs.inner_shape.positive_lengths.Given as goal

abbrev pub invariant-loop-number : goal.invariant-loop-number
invariant-loop-number l = nonzeros l.lengths.items ≡ take l.number-index l.numbers
