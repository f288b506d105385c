use Rattle.std.proofs.Common.{◌≡◌, List, ◌++◌}
use Rattle.zarrs_metadata_parts.specs.AdditionalFields.{additional_fields_seen}
use Rattle.zarrs_metadata_parts.proofs.AdditionalFieldLemmas.{Field}
use Rattle.zarrs_metadata_parts.proofs.v3.additional_fields.copy_additional_fields.Given as goal

abbrev pub invariant-loop-name : goal.invariant-loop-name
invariant-loop-name l =
    (goal.iterator-loop-name).can_next l.name-iterator ×
    (goal.iterator-loop-name).is_finite l.name-iterator ×
    ((done : List Field) × (l.fields.entries ≡ done ++ l.name-iterator) ×
    (additional_fields_seen l.copies.entries ≡ additional_fields_seen done))
