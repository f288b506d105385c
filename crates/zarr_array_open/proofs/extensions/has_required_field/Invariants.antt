use Rattle.std.proofs.Common.{◌≡◌}
use Rattle.zarrs_metadata_parts.specs.AdditionalFields.{additional_fields_seen}
use Rattle.zarr_array_open.specs.Opening.{has_required_field}
use Rattle.zarr_array_open.proofs.extensions.has_required_field.Given as goal

abbrev pub invariant-loop-field : goal.invariant-loop-field
invariant-loop-field l =
    (goal.iterator-loop-field).can_next l.field-iterator ×
    (goal.iterator-loop-field).is_finite l.field-iterator ×
    (has_required_field (additional_fields_seen l.fields.entries) ≡
    has_required_field (additional_fields_seen l.field-iterator))
