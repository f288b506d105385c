use Rattle.std.proofs.Common.{◌≡◌, length, take}
use Rattle.zarrs_storage.specs.Parts.{with_parts}
use Rattle.zarrs_storage.proofs.parts.overwrite.Given as goal

abbrev pub invariant-loop-part : goal.invariant-loop-part
invariant-loop-part l = record {
  long : length l.value.items ≡ length l.fn.value.items;
  value : l.value.items ≡ with_parts (take l.part-index l.parts) l.fn.value.items;
}
