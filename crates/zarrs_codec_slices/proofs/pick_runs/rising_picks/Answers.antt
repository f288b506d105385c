use Rattle.std.proofs.Common.{rules, get_or, refl, arith}
use Rattle.zarrs_codec_slices.proofs.PickRunLaws.{one_replaced, all_of_both}
use Rattle.zarrs_codec_slices.proofs.pick_runs.rising_picks.Goals as goal

pub loop-run-preserved : goal.loop-run-preserved
loop-run-preserved c =
    one_replaced c.args.runs.now c.loop-run.picks.items c.push_both.new.picks.items c.args.count c.loop-run.run-index
    c.loop-run.next c.loop-run.given c.in-Some.behind
    (get_or c.args.runs.now c.loop-run.run-index (0, 0)).0 (get_or c.args.runs.now c.loop-run.run-index (0, 0)).1
    c.loop-run-test.true refl refl c.if-start-next.false
    (c.requires.within c.loop-run.run-index c.loop-run-test.true) (search rules) c.in_ok-push_both.ensures
    c.loop-run.invariant

pub returns-clause-within : goal.returns-clause-within
returns-clause-within c =
    all_of_both c.args.runs.now c.loop-run.picks.items c.push.new.self.items c.args.count c.loop-run.run-index
    c.loop-run.next c.loop-run.given
    (omega (arith, c.loop-run-test.false)) c.in_ok-push.ensures.items c.loop-run.invariant
