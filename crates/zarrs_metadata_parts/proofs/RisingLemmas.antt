-- What additional fields hold that were read.
use Rattle.std.proofs.Common.{◌≡◌, None, codes, refl}
use Rattle.serde_json.specs.Data.{Data, null, boolean, number, string, array, object}
use Rattle.serde_json.specs.Find.{get}
use Rattle.zarrs_metadata_parts.specs.AdditionalField.{AdditionalField, additional_field_of, normal_field}
use Rattle.zarrs_metadata_values.specs.Rising.{Rises}
use Rattle.zarrs_metadata_values.proofs.RisingLemmas.{gone}

-- an additional field that was read holds no `must_understand`
pub no_mark : (d : Data) → Rises d → get (codes "must_understand") (additional_field_of d).value ≡ None
no_mark null h = refl
no_mark (boolean b) h = refl
no_mark (number n) h = refl
no_mark (string s) h = refl
no_mark (array ds) h = refl
no_mark (object ms) h = gone (codes "must_understand") ms h

pub unmarked : (d : Data) (a : AdditionalField) → Rises d → a ≡ additional_field_of d →
    get (codes "must_understand") a.value ≡ None
unmarked d a rises is = rw is (no_mark d rises)

-- an additional field that was read is in its normal form
pub read_is_normal : (d : Data) → normal_field (additional_field_of d) ≡ additional_field_of d
read_is_normal null = refl
read_is_normal (boolean b) = refl
read_is_normal (number n) = refl
read_is_normal (string s) = refl
read_is_normal (array ds) = refl
read_is_normal (object ms) = refl
