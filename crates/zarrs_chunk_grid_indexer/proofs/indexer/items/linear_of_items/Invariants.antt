use Rattle.std.proofs.Common.{◌≡◌, map, take, true}
use Rattle.std.specs.List.{flat_map, list_all}
use Rattle.zarr_model.specs.Region.{linear_index}
use Rattle.zarrs_chunk_grid_indexer.proofs.indexer.items.linear_of_items.Given as goal

abbrev pub invariant-loop-item : goal.invariant-loop-item
invariant-loop-item g l = record {
  items : l.indices.items ≡
      flat_map (λ x. map (linear_index l.array_shape) (g.T.Indexer.places x)) (take l.item-index l.list);
  inside : list_all (λ x. g.T.Indexer.fits x l.array_shape) (take l.item-index l.list) ≡ true;
}
