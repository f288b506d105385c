use Rattle.std.proofs.Common.{arith, ◌∙◌, ap, ◌+◌, ◌-◌, ◌^◌, min, length, take}
use Rattle.std.proofs.lemmas.Grind.{common_steps}
use Rattle.zarrs_storage.specs.ByteRange.{room_of}
use Rattle.zarrs_storage.proofs.RangeLemmas.{room_more}
use Rattle.zarrs_storage.proofs.byte_range.joined_length.Goals as goal

pub loop-range-preserved : goal.loop-range-preserved
loop-range-preserved c =
    let before = room_of (take c.loop-range.range-index c.args.ranges.now) c.args.bytes.now in
    record {
      left = grind (arith, common_steps);
      room = c.saturating_add-room.ensures
          ∙ ap (λ n. min (n + length c.in_ok-part.part.now) (2 ^ 64 - 1)) c.loop-range.invariant.room
          ∙ ap (λ xs. min (before + length xs) (2 ^ 64 - 1)) c.in_ok-part.ensures.value
          ∙ room_more c.args.ranges.now c.args.bytes.now c.loop-range.range-index _
          (omega (c.loop-range-test.true, arith));
    }
