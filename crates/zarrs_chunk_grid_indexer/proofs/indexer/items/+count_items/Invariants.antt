use Rattle.std.proofs.Common.{length}
use Rattle.zarrs_chunk_grid_indexer.proofs.indexer.items.+count_items.Given as goal

abbrev pub decreases-count_items : goal.decreases-count_items
decreases-count_items g l = length l.list.now
