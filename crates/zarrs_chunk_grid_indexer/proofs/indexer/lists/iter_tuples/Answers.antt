use Rattle.std.proofs.Common.{map, ap, ◌∙◌}
use Rattle.zarrs_chunk_grid_indexer.proofs.indexer.lists.iter_tuples.Goals as goal

pub returns : goal.returns
returns c xs e = ap (map (λ t. t.items)) c.into_iter.ensures.rest ∙ c.in_ok-copy.ensures ∙ e
