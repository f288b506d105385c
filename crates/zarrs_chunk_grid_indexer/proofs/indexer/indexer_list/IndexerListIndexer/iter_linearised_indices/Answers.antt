use Rattle.std.proofs.Common.{map, ap, ◌∙◌}
use Rattle.std.specs.List.{flat_map}
use Rattle.zarr_model.specs.Region.{linear_index}
use Rattle.zarrs_chunk_grid_iterators.proofs.ListFacts.{map_items}
use Rattle.zarrs_chunk_grid_indexer.proofs.indexer.indexer_list.IndexerListIndexer.iter_linearised_indices.Goals as goal

pub returns-in-Ok-clause-lists : goal.returns-in-Ok-clause-lists
returns-in-Ok-clause-lists g c =
    c.into_iter.ensures.rest ∙ c.in-Ok.ensures.lists
    ∙ ap (flat_map (λ x. map (linear_index c.args.array_shape.now) (g.T.Indexer.places x))) c.as_slice.ensures.value
    ∙ map_items (linear_index c.args.array_shape.now) g.T.Indexer.places c.args.self.now.list.items
