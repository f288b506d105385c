use Rattle.std.proofs.Common.{◌≡◌, take}
use Rattle.zarr_model.specs.Prelude.{largest}
use Rattle.zarr_basics.specs.Lengths.{nonzeros}
use Rattle.zarr_basics.proofs.axis.largest_in.Given as goal

abbrev pub invariant-loop-length : goal.invariant-loop-length
invariant-loop-length l = l.most ≡ largest (nonzeros (take l.length-index l.lengths))
