use Rattle.std.proofs.Common.{arith}
use Rattle.zarrs_chunk_grid_iterators.proofs.ListFacts.{items_refused}
use Rattle.zarrs_chunk_grid_indexer.proofs.indexer.items.linear_of_items.Goals as goal

pub returns-in-Err-clause-refused : goal.returns-in-Err-clause-refused
returns-in-Err-clause-refused g c =
    items_refused (λ x. g.T.Indexer.fits x c.args.array_shape.now)
    (λ x e. g.T.Indexer.refuses x c.args.array_shape.now e)
    (λ x e h. g.met.T.Indexer.refusal x c.args.array_shape.now e h)
    (λ x. g.met.T.Indexer.memory x c.args.array_shape.now)
    c.args.list.now c.loop-item.item-index c.item-item.result c.in-Err.error c.loop-item.invariant.inside (omega arith)
    c.item-item.is c.in-Err.ensures.refused
