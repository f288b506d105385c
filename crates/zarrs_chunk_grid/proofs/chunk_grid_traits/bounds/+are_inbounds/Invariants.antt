use Rattle.std.proofs.Common.{length}
use Rattle.zarrs_chunk_grid.proofs.chunk_grid_traits.bounds.+are_inbounds.Given as goal

abbrev pub decreases-are_inbounds : goal.decreases-are_inbounds
decreases-are_inbounds l = length l.shape.now
