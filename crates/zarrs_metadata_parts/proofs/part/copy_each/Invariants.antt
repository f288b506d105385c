use Rattle.std.proofs.Common.{◌≡◌, map, take}
use Rattle.zarrs_metadata_parts.proofs.part.copy_each.Given as goal

abbrev pub invariant-loop-part : goal.invariant-loop-part
invariant-loop-part g l = map g.T.Part.seen l.copies.items ≡ map g.T.Part.seen (take l.part-index l.parts)
