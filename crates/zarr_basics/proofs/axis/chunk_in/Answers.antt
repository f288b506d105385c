use Rattle.zarr_model.proofs.ReachedLaws.{found_at}
use Rattle.zarr_basics.proofs.axis.chunk_in.Goals as goal

pub returns-in-Ok : goal.returns-in-Ok
returns-in-Ok c = found_at c.args.starts.now c.args.index c.in-Ok.chunk c.requires c.in-Ok.ensures.position
