use Rattle.std.proofs.Common.{map, ap, ◌∙◌}
use Rattle.std.specs.List.{flat_map}
use Rattle.zarrs_chunk_grid_indexer.proofs.indexer.indexer_list.IndexerListIndexer.iter_indices.Goals as goal

pub returns-clause-lists : goal.returns-clause-lists
returns-clause-lists g c = ap (map (λ t. t.items)) c.into_iter.ensures.rest ∙ c.in_ok-tuples.ensures
    ∙ ap (flat_map g.T.Indexer.places) c.as_slice.ensures.value
