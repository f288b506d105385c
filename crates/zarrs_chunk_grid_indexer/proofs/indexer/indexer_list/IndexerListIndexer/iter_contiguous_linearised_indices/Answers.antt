use Rattle.std.proofs.Common.{map, ap, ◌∙◌}
use Rattle.std.specs.List.{flat_map}
use Rattle.zarrs_chunk_grid_iterators.specs.Runs.{span_of}
use Rattle.zarrs_chunk_grid_indexer.proofs.indexer.indexer_list.IndexerListIndexer.iter_contiguous_linearised_indices.Goals as goal

pub returns-in-Ok-clause-lists : goal.returns-in-Ok-clause-lists
returns-in-Ok-clause-lists g c =
    ap (map span_of) c.into_iter.ensures.rest ∙ c.in-Ok.ensures.lists
    ∙ ap (flat_map (λ x. g.T.Indexer.pieces x c.args.array_shape.now)) c.as_slice.ensures.value
