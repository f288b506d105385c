use Rattle.std.proofs.Common.{◌≡◌, take}
use Rattle.zarr_basics.specs.Lengths.{nonzeros}
use Rattle.zarr_basics.proofs.grid_configuration.positive_lengths.Given as goal

abbrev pub invariant-loop-length : goal.invariant-loop-length
invariant-loop-length l = nonzeros l.shape.items ≡ take l.length-index l.lengths
