use Rattle.std.proofs.Common.{◌≡◌, length, drop, take}
use Rattle.std.specs.List.{concat}
use Rattle.zarrs_storage.specs.ByteRange.{slices_of, first_invalid}
use Rattle.zarrs_storage.proofs.byte_range.extract_byte_ranges_concat.Given as goal

abbrev pub invariant-loop-range : goal.invariant-loop-range
invariant-loop-range l = record {
  left : first_invalid (length l.bytes) (drop l.range-index l.ranges) ≡ first_invalid (length l.bytes) l.ranges;
  joined : l.joined.items ≡ concat (slices_of (take l.range-index l.ranges) l.bytes);
}
