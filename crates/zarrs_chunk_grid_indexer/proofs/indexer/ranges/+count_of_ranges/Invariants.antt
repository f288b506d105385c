use Rattle.std.proofs.Common.{length}
use Rattle.zarrs_chunk_grid_indexer.proofs.indexer.ranges.+count_of_ranges.Given as goal

abbrev pub decreases-count_of_ranges : goal.decreases-count_of_ranges
decreases-count_of_ranges l = length l.ranges.now
