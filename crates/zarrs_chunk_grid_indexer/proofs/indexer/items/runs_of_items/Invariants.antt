use Rattle.std.proofs.Common.{◌≡◌, map, take, true}
use Rattle.std.specs.List.{flat_map, list_all}
use Rattle.zarrs_chunk_grid_iterators.specs.Runs.{span_of}
use Rattle.zarrs_chunk_grid_indexer.proofs.indexer.items.runs_of_items.Given as goal

abbrev pub invariant-loop-item : goal.invariant-loop-item
invariant-loop-item g l = record {
  items : map span_of l.runs.items ≡ flat_map (λ x. g.T.Indexer.pieces x l.array_shape) (take l.item-index l.list);
  inside : list_all (λ x. g.T.Indexer.fits x l.array_shape) (take l.item-index l.list) ≡ true;
}
