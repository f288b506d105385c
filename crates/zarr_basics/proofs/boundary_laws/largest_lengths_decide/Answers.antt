use Rattle.zarr_basics.proofs.LimitLaws.{decided}
use Rattle.zarr_basics.proofs.boundary_laws.largest_lengths_decide.Goals as goal

pub returns : goal.returns
returns c = decided
