use Rattle.serde_json.specs.View.{view}
use Rattle.zarrs_metadata_parts.specs.AdditionalField.{additional_field_seen}
use Rattle.zarrs_metadata_parts.proofs.RisingLemmas.{unmarked}
use Rattle.zarrs_metadata_parts.proofs.v3.additional_field.AdditionalFieldV3.try_from_text.Goals as goal

pub returns-clause-unmarked : goal.returns-clause-unmarked
returns-clause-unmarked c =
    unmarked (view c.in_ok-value.value) (additional_field_seen c.from.result) c.in_ok-value.ensures.rises c.from.ensures
