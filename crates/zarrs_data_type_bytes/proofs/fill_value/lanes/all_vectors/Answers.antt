use Rattle.std.proofs.Common.{arith}
use Rattle.zarrs_data_type_bytes.proofs.LaneLaws.{by_vectors, never}
use Rattle.zarrs_data_type_bytes.proofs.fill_value.lanes.all_vectors.Goals as goal

pub returns-then-not-all_pieces : goal.returns-then-not-all_pieces
returns-then-not-all_pieces c =
    let laws = by_vectors c.args.fill.now c.args.bytes.now 16 c.requires.some (omega arith) c.requires.lanes
    c.requires.whole (omega (arith, c.if-bytes-lt16.false)) in
    (λ h. cc, λ all. never c.all_pieces.result c.if-not-all_pieces.true (c.all_pieces.ensures.1 (laws.1 all)))

pub returns : goal.returns
returns c =
    let laws = by_vectors c.args.fill.now c.args.bytes.now 16 c.requires.some (omega arith) c.requires.lanes
    c.requires.whole (omega (arith, c.if-bytes-lt16.false)) in (
      λ h. laws.0 (c.all_pieces.ensures.0 c.if-not-all_pieces.false) (c.are_lanes.ensures.0 h),
      λ all. c.are_lanes.ensures.1 (laws.2 all),
    )
