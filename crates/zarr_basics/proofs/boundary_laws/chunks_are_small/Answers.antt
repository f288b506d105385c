use Rattle.zarr_basics.proofs.LimitLaws.{small_chunk}
use Rattle.zarr_basics.proofs.boundary_laws.chunks_are_small.Goals as goal

pub returns : goal.returns
returns c = small_chunk
