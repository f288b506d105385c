use Rattle.std.proofs.Common.{◌*◌, ◌/◌, ◌+◌, ◌-◌, length, arith, drop, take, ap, ◌∙◌}
use Rattle.zarrs_data_type_bytes.specs.Rounding.{rounded_bytes}
use Rattle.zarrs_data_type_bytes.proofs.PieceLaws.{more_pieces, whole_pieces, piece_long}
use Rattle.zarrs_data_type_bytes.proofs.RoundLaws.{rounding_keeps}
use Rattle.zarrs_data_type_bytes.proofs.rounding.round_pieces.Goals as goal

pub loop-k-preserved : goal.loop-k-preserved
loop-k-preserved c =
    let at = c.loop-k.k * c.args.size + c.args.size - c.loop-k.k * c.args.size in
    more_pieces (rounded_bytes c.args.keepbits c.args.size) c.args.size c.loop-k.k
    (length c.args.bytes.now / c.args.size) at
    c.args.bytes.now c.loop-k.bytes c.round_piece.new.bytes (rounding_keeps c.args.keepbits c.args.size)
    c.loop-k-test.true (whole_pieces c.args.size c.args.bytes.now)
    c.loop-k.invariant (omega arith) (c.round_piece.ensures ∙ ap (λ n.
    rounded_bytes c.args.keepbits n (take at (drop (c.loop-k.k * c.args.size) c.loop-k.bytes))) (piece_long c.args.size
    c.loop-k.k at c.args.bytes.now c.loop-k.bytes (omega arith) c.loop-k.auto.bytes c.loop-k-test.true))
