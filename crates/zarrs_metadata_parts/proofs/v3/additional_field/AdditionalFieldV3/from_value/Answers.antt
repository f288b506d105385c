use Rattle.serde_json.specs.View.{view}
use Rattle.zarrs_metadata_parts.specs.AdditionalField.{additional_field_seen}
use Rattle.zarrs_metadata_parts.proofs.RisingLemmas.{unmarked}
use Rattle.zarrs_metadata_parts.proofs.v3.additional_field.AdditionalFieldV3.from_value.Goals as goal

pub returns-clause-unmarked : goal.returns-clause-unmarked
returns-clause-unmarked c = unmarked (view c.args.value.now) (additional_field_seen
    c.in_ok-read_additional_field.field-0) c.in_ok-refuse_floats.ensures.rises c.in_ok-read_additional_field.ensures
