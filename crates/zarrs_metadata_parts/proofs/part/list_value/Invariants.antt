use Rattle.std.proofs.Common.{◌≡◌, map, take}
use Rattle.serde_json.specs.View.{view}
use Rattle.zarrs_metadata_parts.proofs.part.list_value.Given as goal

abbrev pub invariant-loop-part : goal.invariant-loop-part
invariant-loop-part g l = map view l.items.items ≡ map g.T.Part.written (map g.T.Part.seen (take l.part-index l.parts))
