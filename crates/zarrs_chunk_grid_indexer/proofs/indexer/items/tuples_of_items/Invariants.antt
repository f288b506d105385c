use Rattle.std.proofs.Common.{◌≡◌, map, take}
use Rattle.std.specs.List.{flat_map}
use Rattle.zarrs_chunk_grid_indexer.proofs.indexer.items.tuples_of_items.Given as goal

abbrev pub invariant-loop-item : goal.invariant-loop-item
invariant-loop-item g l = map (λ t. t.items) l.tuples.items ≡ flat_map g.T.Indexer.places (take l.item-index l.list)
