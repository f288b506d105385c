use Rattle.std.proofs.Common.{◌≡◌, drop, take, map}
use Rattle.zarrs_storage.specs.ByteRange.{first_invalid, shifted}
use Rattle.zarrs_storage.proofs.byte_range.shift_byte_ranges.Given as goal

abbrev pub invariant-loop-range : goal.invariant-loop-range
invariant-loop-range l = record {
  left : first_invalid l.size (drop l.range-index l.ranges) ≡ first_invalid l.size l.ranges;
  moved : l.moved.items ≡ map (shifted l.offset l.size) (take l.range-index l.ranges);
}
