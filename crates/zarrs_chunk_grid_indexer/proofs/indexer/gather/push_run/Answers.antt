use Rattle.std.proofs.Common.{◌++◌, ◌-◌, ◌+◌, ap, ◌∙◌, arith, length, [], ◌∷◌, take}
use Rattle.std.proofs.lemmas.List.{take-append-le, length-append}
use Rattle.std.specs.List.{range_with_len}
use Rattle.zarrs_chunk_grid_indexer.proofs.RunFacts.{run_step}
use Rattle.zarrs_chunk_grid_indexer.proofs.indexer.gather.push_run.Goals as goal

pub loop-index-preserved : goal.loop-index-preserved
loop-index-preserved c = (
  ap (λ items. items ++ range_with_len (c.loop-index.index + 1) (c.args.first + c.args.count
      - (c.loop-index.index + 1))) c.in_default.ensures.items
      ∙ run_step c.loop-index.out.items (c.args.out.now.items ++ range_with_len c.args.first c.args.count)
      c.loop-index.index (c.args.first + c.args.count) c.loop-index-test.true c.loop-index.invariant.0,
  ap (take c.len-before.result) c.in_default.ensures.items
      ∙ (take-append-le c.len-before.result c.loop-index.out.items (c.loop-index.index ∷ []) c.loop-index.invariant.2
      ∙ c.loop-index.invariant.1),
  omega (
    arith,
    ap length c.in_default.ensures.items,
    length-append c.loop-index.out.items (c.loop-index.index ∷ []),
    c.loop-index.invariant.2,
  ),
)
