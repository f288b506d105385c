use Rattle.zarrs_codec_slices.proofs.PieceRunLaws.{run_pieces}
use Rattle.zarrs_codec_slices.proofs.piece_runs.run_at.Goals as goal

pub returns : goal.returns
returns c = run_pieces c.args.size c.args.bytes.now c.args.start c.args.len
