use Rattle.std.proofs.Common.{arith}
use Rattle.zarrs_codec_slices.specs.Picking.{picked_value}
use Rattle.zarrs_codec_slices.proofs.PieceRunLaws.{values_step, offsets_step, runs_within_at_end}
use Rattle.zarrs_codec_slices.proofs.value_runs.gather_value_runs.Goals as goal

pub loop-run-preserved : goal.loop-run-preserved
loop-run-preserved c =
    let value =
    picked_value c.args.count c.args.old.now c.args.old_offsets.now c.args.new.now c.args.new_offsets.now in (
      values_step value c.args.runs.now c.loop-run.run-index c.loop-run-test.true _ _ _
          c.in_ok-append_picked.ensures.values c.loop-run.invariant.0,
      offsets_step value c.args.runs.now c.loop-run.run-index c.loop-run-test.true c.loop-run.bytes.items _
          c.loop-run.offsets.items _ _
          c.in_ok-append_picked.ensures.values c.in_ok-append_picked.ensures.offsets c.loop-run.invariant.1,
    )

pub returns-clause-within : goal.returns-clause-within
returns-clause-within c =
    runs_within_at_end (picked_value c.args.count c.args.old.now c.args.old_offsets.now c.args.new.now
    c.args.new_offsets.now) c.args.runs.now c.loop-run.run-index
    c.loop-run.bytes.items c.loop-run.offsets.items (omega (arith, c.loop-run-test.false)) c.loop-run.invariant.0
    c.loop-run.invariant.1
