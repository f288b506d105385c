use Rattle.std.proofs.Common.{length}
use Rattle.zarrs_chunk_grid_iterators.proofs.rows.+row_of_place.Given as goal

abbrev pub decreases-row_of_place : goal.decreases-row_of_place
decreases-row_of_place l = length l.shape.now
