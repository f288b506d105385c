use Rattle.zarr_model.proofs.LaidLaws.{AreLaid}
use Rattle.zarr_basics.specs.Lengths.{nonzeros}
use Rattle.zarr_basics.proofs.axis.BoundaryAxis.new.Given as goal

abbrev pub invariant-loop-length : goal.invariant-loop-length
invariant-loop-length l = AreLaid l.extent l.lengths l.length-index l.left (nonzeros l.kept.items) l.starts.items
