use Rattle.zarrs_data_type_bytes.proofs.LaneLaws.{by_parts, rest_whole, never}
use Rattle.zarrs_data_type_bytes.proofs.fill_value.lanes.by_lanes.Goals as goal

pub all_pieces-requires-clause-whole : goal.all_pieces-requires-clause-whole
all_pieces-requires-clause-whole c = rest_whole c.args.fill.now c.args.bytes.now 16 c.requires.some c.requires.lanes
    c.requires.whole c.split_at.result.1.now c.split_at.ensures.back_len

pub returns-then-not-all_pieces : goal.returns-then-not-all_pieces
returns-then-not-all_pieces c =
    let laws = by_parts c.args.fill.now c.args.bytes.now 16 c.requires.some c.requires.lanes c.requires.whole
    c.split_at.result.0.now c.split_at.result.1.now c.split_at.ensures.front c.split_at.ensures.back
    c.split_at.ensures.front_len c.split_at.ensures.back_len in
    (λ h. cc, λ all. never c.all_pieces.result c.if-not-all_pieces.true (c.all_pieces.ensures.1 (laws.2 all)))

pub returns : goal.returns
returns c =
    let laws = by_parts c.args.fill.now c.args.bytes.now 16 c.requires.some c.requires.lanes c.requires.whole
    c.split_at.result.0.now c.split_at.result.1.now c.split_at.ensures.front c.split_at.ensures.back
    c.split_at.ensures.front_len c.split_at.ensures.back_len in (
      λ h. laws.0 (c.all_vectors.ensures.0 h) (c.all_pieces.ensures.0 c.if-not-all_pieces.false),
      λ all. c.all_vectors.ensures.1 (laws.1 all),
    )
