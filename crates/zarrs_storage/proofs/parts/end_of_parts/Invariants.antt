use Rattle.std.proofs.Common.{◌≡◌, take}
use Rattle.zarrs_storage.specs.Parts.{end_of}
use Rattle.zarrs_storage.proofs.parts.end_of_parts.Given as goal

abbrev pub invariant-loop-part : goal.invariant-loop-part
invariant-loop-part l = l.end ≡ end_of (take l.part-index l.parts)
