use Rattle.std.proofs.Common.{sym, ◌∙◌}
use Rattle.zarrs_codec_slices.specs.Picking.{piece_of}
use Rattle.zarrs_codec_slices.proofs.PieceRunLaws.{joined_of_first, joined_of_second}
use Rattle.zarrs_codec_slices.proofs.piece_runs.picked_run.Goals as goal

pub returns-then-start-count : goal.returns-then-start-count
returns-then-start-count c =
    c.run_at.ensures
    ∙ sym (joined_of_first c.args.count (piece_of c.args.size c.args.old.now) (piece_of c.args.size c.args.new.now)
    c.args.run.0 c.args.run.1 (c.requires.first c.if-start-count.true))

pub returns-else-start-count : goal.returns-else-start-count
returns-else-start-count c =
    c.run_at-else-start-count.ensures
    ∙ sym (joined_of_second c.args.count (piece_of c.args.size c.args.old.now) (piece_of c.args.size c.args.new.now)
    c.args.run.0 c.args.run.1 c.if-start-count.false)
