use Rattle.std.proofs.Common.{arith}
use Rattle.zarrs_codec_slices.proofs.RepeatLaws.{within_at_end}
use Rattle.zarrs_codec_slices.proofs.values.repeated_values.Goals as goal

pub returns-clause-within : goal.returns-clause-within
returns-clause-within c =
    within_at_end c.loop.counter c.args.count c.args.value.now c.loop.bytes.items c.loop.offsets.items
    (omega (arith, c.loop-test.false)) c.loop.invariant.0 c.loop.invariant.1
