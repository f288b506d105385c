use Rattle.std.proofs.Common.{arith, map, rules, subst}
use Rattle.zarrs_chunk_grid_iterators.specs.Lists.{RefusesTuple}
use Rattle.zarrs_chunk_grid_iterators.proofs.ListFacts.{list_memory, list_refused}
use Rattle.zarrs_chunk_grid_indexer.proofs.indexer.lists.linear_of_list.Goals as goal

pub returns-in_err-indices-clause-refused : goal.returns-in_err-indices-clause-refused
returns-in_err-indices-clause-refused c = let memory =
    list_memory (map (λ t. t.items) c.args.list.now) c.args.array_shape.now in search (rules, memory)

pub returns-in_err-push-in-Ok-clause-refused : goal.returns-in_err-push-in-Ok-clause-refused
returns-in_err-push-in-Ok-clause-refused c = let memory =
    list_memory (map (λ t. t.items) c.args.list.now) c.args.array_shape.now in search (rules, memory)

pub returns-in-Err-clause-refused : goal.returns-in-Err-clause-refused
returns-in-Err-clause-refused c =
    list_refused (λ t. t.items) c.args.list.now c.args.array_shape.now c.loop-tuple.tuple-index c.tuple-item.result
    c.in-Err.error c.loop-tuple.invariant.inside (omega arith) c.tuple-item.is
    (subst (λ t. RefusesTuple t c.args.array_shape.now c.in-Err.error) c.deref.ensures.value c.in-Err.ensures.refused)
