use Rattle.zarrs_codec_slices.proofs.PickRunLaws.{one_grown, one_begun}
use Rattle.zarrs_codec_slices.proofs.pick_runs.runs_of.Goals as goal

pub loop-pick-preserved-then-pick-first : goal.loop-pick-preserved-then-pick-first
loop-pick-preserved-then-pick-first c =
    one_grown c.args.picks.now c.args.count c.args.new_count c.loop-pick.pick-index c.loop-pick.first c.loop-pick.len
    c.loop-pick.runs.items c.loop-pick-test.true c.requires
    c.loop-pick.invariant c.if-pick-count.true c.if-first-pick.true c.if-pick-first.true

pub loop-pick-preserved : goal.loop-pick-preserved
loop-pick-preserved c =
    one_begun c.args.picks.now c.args.count c.args.new_count c.loop-pick.pick-index c.loop-pick.first c.loop-pick.len
    c.loop-pick.runs.items c.loop-pick-test.true c.requires
    c.loop-pick.invariant c.push.new.self.items c.in_ok-push.ensures.items
