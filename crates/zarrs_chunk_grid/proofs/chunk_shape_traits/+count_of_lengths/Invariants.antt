use Rattle.std.proofs.Common.{length}
use Rattle.zarrs_chunk_grid.proofs.chunk_shape_traits.+count_of_lengths.Given as goal

abbrev pub decreases-count_of_lengths : goal.decreases-count_of_lengths
decreases-count_of_lengths l = length l.shape.now
