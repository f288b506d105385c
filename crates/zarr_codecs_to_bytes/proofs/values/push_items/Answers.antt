use Rattle.zarr_codecs_to_bytes.proofs.ValueLaws.{step_values, step_items, step_within}
use Rattle.zarr_codecs_to_bytes.proofs.values.push_items.Goals as goal

pub push_between-requires-clause-within : goal.push_between-requires-clause-within
push_between-requires-clause-within c =
    (step_within c.args.bytes.now c.loop-to.from _ _ (step_values c.args.bytes.now c.args.rest.now c.loop-to.to-index
    c.loop-to.from c.loop-to-test.true c.loop-to.invariant.left)).1

pub loop-to-preserved : goal.loop-to-preserved
loop-to-preserved c = record {
  items = step_items c.loop-to.out.items c.push_between.new.out.items _ c.args.bytes.now c.args.rest.now
      c.loop-to.to-index c.loop-to.from c.loop-to-test.true c.loop-to.invariant.items c.in_ok-push_between.ensures;
  left = (step_within c.args.bytes.now c.loop-to.from _ _ (step_values c.args.bytes.now c.args.rest.now
      c.loop-to.to-index c.loop-to.from c.loop-to-test.true c.loop-to.invariant.left)).3;
}
