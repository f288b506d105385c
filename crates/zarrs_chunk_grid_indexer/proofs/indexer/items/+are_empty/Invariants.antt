use Rattle.std.proofs.Common.{length}
use Rattle.zarrs_chunk_grid_indexer.proofs.indexer.items.+are_empty.Given as goal

abbrev pub decreases-are_empty : goal.decreases-are_empty
decreases-are_empty g l = length l.list.now
