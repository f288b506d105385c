use Rattle.std.proofs.Common.{◌≡◌, List, ◌++◌, take, map}
use Rattle.serde_json.specs.View.{view, members_view}
use Rattle.serde_json.proofs.Views.{Entry}
use Rattle.zarrs_metadata_values.specs.FillValueMetadata.{fill_view, fields_view}
use Rattle.zarrs_metadata_values.proofs.fill_value.tree.+fill.Given as goal

abbrev pub invariant-fills_from_items-loop-item : goal.invariant-fills_from_items-loop-item
invariant-fills_from_items-loop-item l = map fill_view l.fills.items ≡ map view (take l.item-index l.item-items)

abbrev pub invariant-fills_from_members-loop-name : goal.invariant-fills_from_members-loop-name
invariant-fills_from_members-loop-name l =
    (done : List Entry) × (l.members.entries ≡ done ++ l.name-iterator) ×
    (fields_view l.fills.entries ≡ members_view done)
