use Rattle.std.proofs.Common.{◌≡◌, map, take, true}
use Rattle.zarr_model.specs.Region.{linear_index}
use Rattle.zarrs_chunk_grid_iterators.specs.Lists.{is_list_inside}
use Rattle.zarrs_chunk_grid_indexer.proofs.indexer.lists.linear_of_list.Given as goal

abbrev pub invariant-loop-tuple : goal.invariant-loop-tuple
invariant-loop-tuple l = record {
  items : l.indices.items ≡ map (linear_index l.array_shape) (map (λ t. t.items) (take l.tuple-index l.list));
  inside : is_list_inside (map (λ t. t.items) (take l.tuple-index l.list)) l.array_shape ≡ true;
}
