use Rattle.std.proofs.Common.{length}
use Rattle.zarrs_chunk_grid_iterators.proofs.runs.+run_front.Given as goal

abbrev pub decreases-run_front : goal.decreases-run_front
decreases-run_front l = length l.shape.now
