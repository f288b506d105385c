use Rattle.std.proofs.Common.{arith}
use Rattle.zarrs_codec_slices.specs.Picking.{picked_value}
use Rattle.zarrs_codec_slices.proofs.ValueLaws.{within_at_end}
use Rattle.zarrs_codec_slices.proofs.values.gather_values.Goals as goal

pub returns-clause-within : goal.returns-clause-within
returns-clause-within c =
    within_at_end (picked_value c.args.count c.args.old.now c.args.old_offsets.now c.args.new.now
    c.args.new_offsets.now) c.args.picks.now c.loop-pick.pick-index
    c.loop-pick.bytes.items c.loop-pick.offsets.items (omega (arith, c.loop-pick-test.false)) c.loop-pick.invariant.0
    c.loop-pick.invariant.1
