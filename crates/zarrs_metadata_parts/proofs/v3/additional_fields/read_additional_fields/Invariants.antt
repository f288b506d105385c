use Rattle.std.proofs.Common.{◌≡◌, List, ◌++◌}
use Rattle.serde_json.specs.View.{members_view}
use Rattle.serde_json.proofs.Views.{Entry}
use Rattle.zarrs_metadata_parts.specs.AdditionalFields.{additional_fields_of, additional_fields_seen}
use Rattle.zarrs_metadata_parts.proofs.v3.additional_fields.read_additional_fields.Given as goal

abbrev pub invariant-loop-name : goal.invariant-loop-name
invariant-loop-name l =
    (goal.iterator-loop-name).can_next l.name-iterator ×
    (goal.iterator-loop-name).is_finite l.name-iterator ×
    ((done : List Entry) × (l.members.entries ≡ done ++ l.name-iterator) ×
    (additional_fields_seen l.fields.entries ≡ additional_fields_of l.kind (members_view done)))
