use Rattle.std.proofs.Common.{◌++◌, ap, ◌∙◌}
use Rattle.zarrs_codec_slices.specs.Picking.{picked_piece}
use Rattle.zarrs_codec_slices.proofs.PieceRunLaws.{values_step}
use Rattle.zarrs_codec_slices.proofs.piece_runs.gather_piece_runs.Goals as goal

pub loop-run-preserved : goal.loop-run-preserved
loop-run-preserved c =
    values_step (picked_piece c.args.size c.args.count c.args.old.now c.args.new.now) c.args.runs.now
    c.loop-run.run-index c.loop-run-test.true c.loop-run.out.items _ _
    (c.in_ok-extend_from_slice.ensures.items ∙ ap (λ l. c.loop-run.out.items ++ l) c.picked_run-elements.ensures)
    c.loop-run.invariant
