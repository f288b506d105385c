use Rattle.std.proofs.Common.{◌≡◌, Some, take, map}
use Rattle.serde_json.specs.View.{items_view}
use Rattle.zarrs_metadata_values.specs.Reading.{each}
use Rattle.zarrs_metadata_parts.proofs.part.read_each.Given as goal

abbrev pub invariant-loop-item : goal.invariant-loop-item
invariant-loop-item g l =
    each g.T.Part.form (items_view (take l.item-index l.items)) ≡ Some (map g.T.Part.seen l.parts.items)
