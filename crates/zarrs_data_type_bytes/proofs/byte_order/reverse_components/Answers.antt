use Rattle.std.proofs.Common.{◌*◌, ◌/◌, ◌+◌, ◌-◌, length, reverse, arith}
use Rattle.zarrs_data_type_bytes.proofs.PieceLaws.{more_pieces, reverse_keeps, whole_pieces}
use Rattle.zarrs_data_type_bytes.proofs.byte_order.reverse_components.Goals as goal

pub loop-k-preserved : goal.loop-k-preserved
loop-k-preserved c =
    more_pieces reverse c.args.size c.loop-k.k
    (length c.args.bytes.now / c.args.size) (c.loop-k.k * c.args.size + c.args.size - c.loop-k.k * c.args.size)
    c.args.bytes.now c.loop-k.bytes c.reverse.new.self (reverse_keeps c.args.size) c.loop-k-test.true
    (whole_pieces c.args.size c.args.bytes.now)
    c.loop-k.invariant (omega arith) c.reverse.ensures.after
