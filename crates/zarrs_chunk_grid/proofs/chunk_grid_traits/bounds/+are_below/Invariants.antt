use Rattle.std.proofs.Common.{length}
use Rattle.zarrs_chunk_grid.proofs.chunk_grid_traits.bounds.+are_below.Given as goal

abbrev pub decreases-are_below : goal.decreases-are_below
decreases-are_below l = length l.shape.now
