use Rattle.std.proofs.Common.{◌≡◌, map, take}
use Rattle.zarrs_chunk_grid_indexer.proofs.indexer.lists.copy_tuples.Given as goal

abbrev pub invariant-loop-tuple : goal.invariant-loop-tuple
invariant-loop-tuple l = map (λ t. t.items) l.copy.items ≡ map (λ t. t.items) (take l.tuple-index l.list)
