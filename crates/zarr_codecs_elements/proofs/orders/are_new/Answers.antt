use Rattle.zarr_codecs_elements.proofs.LoopLaws.{seen_again, one_seen}
use Rattle.zarr_codecs_elements.proofs.orders.are_new.Goals as goal

pub returns-then-seen-number : goal.returns-then-seen-number
returns-then-seen-number c = seen_again c.args.order.now c.loop-number.seen c.loop-number.number-index
    c.loop-number.invariant c.loop-number-test.true c.if-number-seen.false c.if-seen-number.true

pub loop-number-preserved : goal.loop-number-preserved
loop-number-preserved c = one_seen c.args.order.now c.loop-number.seen c.loop-number.number-index
    c.loop-number.invariant c.loop-number-test.true c.if-number-seen.false c.if-seen-number.false
