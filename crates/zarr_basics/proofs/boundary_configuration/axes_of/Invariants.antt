use Rattle.std.proofs.Common.{map}
use Rattle.zarr_basics.specs.Axes.{lengths_of}
use Rattle.zarr_basics.proofs.MadeAxes.{AreMade}
use Rattle.zarr_basics.proofs.boundary_configuration.axes_of.Given as goal

abbrev pub invariant-loop-k : goal.invariant-loop-k
invariant-loop-k l = AreMade l.shape (map (λ list. list.items) l.lists) l.k (lengths_of l.axes.items)
