use Rattle.std.proofs.Common.{subst, sym}
use Rattle.zarr_model.specs.Prelude.{IsRising}
use Rattle.zarr_basics.proofs.AxisFacts.{axis_rises}
use Rattle.zarr_basics.proofs.axis.BoundaryAxis.chunk_at.Goals as goal

pub chunk_in-requires : goal.chunk_in-requires
chunk_in-requires c = subst IsRising (sym c.deref.ensures.value) (axis_rises c.args.self.now)
