use Rattle.std.proofs.Common.{◌≡◌, List, ◌++◌, take, map}
use Rattle.serde_json.specs.View.{view, members_view}
use Rattle.zarrs_metadata_values.specs.FillValueMetadata.{fill_view, fields_view}
use Rattle.zarrs_metadata_values.proofs.FillLemmas.{Field}
use Rattle.zarrs_metadata_values.proofs.fill_value.tree.+fill_back.Given as goal

abbrev pub invariant-items_from_fills-loop-fill : goal.invariant-items_from_fills-loop-fill
invariant-items_from_fills-loop-fill l = map view l.items.items ≡ map fill_view (take l.fill-index l.fill-items)

abbrev pub invariant-members_from_fields-loop-name : goal.invariant-members_from_fields-loop-name
invariant-members_from_fields-loop-name l =
    (done : List Field) × (l.fields.entries ≡ done ++ l.name-iterator) ×
    (members_view l.members.entries ≡ fields_view done)
