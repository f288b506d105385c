use Rattle.std.proofs.Common.{◌≡◌}
use Rattle.serde_json.specs.View.{members_view}
use Rattle.zarrs_metadata_parts.specs.AdditionalFields.{put_fields, additional_fields_seen}
use Rattle.zarrs_metadata_parts.proofs.v3.additional_fields.put_fields.Given as goal

abbrev pub invariant-loop-name : goal.invariant-loop-name
invariant-loop-name l =
    (goal.iterator-loop-name).can_next l.name-iterator ×
    (goal.iterator-loop-name).is_finite l.name-iterator ×
    (put_fields l.kind (additional_fields_seen l.name-iterator) (members_view l.members.entries) ≡
    put_fields l.kind (additional_fields_seen l.fields.entries) (members_view l.fn.members.entries))
