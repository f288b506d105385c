use Rattle.std.proofs.Common.{◌≡◌, length, drop, take}
use Rattle.zarrs_storage.specs.ByteRange.{first_invalid, room_of}
use Rattle.zarrs_storage.proofs.byte_range.joined_length.Given as goal

abbrev pub invariant-loop-range : goal.invariant-loop-range
invariant-loop-range l = record {
  left : first_invalid (length l.bytes) (drop l.range-index l.ranges) ≡ first_invalid (length l.bytes) l.ranges;
  room : l.room ≡ room_of (take l.range-index l.ranges) l.bytes;
}
