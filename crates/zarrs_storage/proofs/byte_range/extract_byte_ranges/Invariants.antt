use Rattle.std.proofs.Common.{◌≡◌, length, drop, take}
use Rattle.zarrs_storage.specs.ByteRange.{slices_of, first_invalid, parts_of}
use Rattle.zarrs_storage.proofs.byte_range.extract_byte_ranges.Given as goal

abbrev pub invariant-loop-range : goal.invariant-loop-range
invariant-loop-range l = record {
  left : first_invalid (length l.bytes) (drop l.range-index l.ranges) ≡ first_invalid (length l.bytes) l.ranges;
  parts : parts_of l.parts ≡ slices_of (take l.range-index l.ranges) l.bytes;
}
