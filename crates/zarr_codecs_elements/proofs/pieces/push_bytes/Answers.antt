use Rattle.std.proofs.Common.{length}
use Rattle.zarr_codecs_elements.proofs.LoopLaws.{run_below}
use Rattle.zarr_codecs_elements.proofs.PieceSteps.{one_byte}
use Rattle.zarr_codecs_elements.proofs.pieces.push_bytes.Goals as goal

pub loop-i-preserved : goal.loop-i-preserved
loop-i-preserved c =
    one_byte c.args.items.now c.loop-i.out.items c.push.new.self.items _ c.args.len c.args.step c.args.from c.loop-i.i
    c.loop-i-test.true
    (run_below (length c.args.items.now) c.args.from c.args.len c.args.step c.loop-i.i c.loop-i-test.true c.requires)
    c.in_ok-push.ensures.items c.loop-i.invariant
