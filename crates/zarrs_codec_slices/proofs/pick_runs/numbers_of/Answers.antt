use Rattle.zarrs_codec_slices.proofs.PickRunLaws.{numbers_step}
use Rattle.zarrs_codec_slices.proofs.pick_runs.numbers_of.Goals as goal

pub loop-run-preserved : goal.loop-run-preserved
loop-run-preserved c = numbers_step c.args.runs.now c.loop-run.run-index c.loop-run.numbers.items _ _
    c.loop-run-test.true c.in_ok-push_numbers.ensures c.loop-run.invariant
