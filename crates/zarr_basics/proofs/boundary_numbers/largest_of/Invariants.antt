use Rattle.std.proofs.Common.{◌≡◌, take}
use Rattle.zarr_basics.specs.Axes.{largest_of}
use Rattle.zarr_basics.specs.Lengths.{nonzeros}
use Rattle.zarr_basics.proofs.boundary_numbers.largest_of.Given as goal

abbrev pub invariant-loop-axis : goal.invariant-loop-axis
invariant-loop-axis l = nonzeros l.lengths.items ≡ largest_of (take l.axis-index l.axes)
