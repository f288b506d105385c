-- A field of a document beyond those that it names.
use Rattle.std.specs.Prelude.{Bool, true, Option, Some, codes}
use Rattle.serde_json.specs.Data.{Data, boolean, object, put}
use Rattle.serde_json.specs.Find.{get_member}
use Rattle.serde_json.specs.View.{view}
use Rattle.zarrs_metadata_values.specs.Reading.{without}
use Rattle.zarrs_metadata_parts.specs.declared.v3.additional_field.AdditionalFieldV3.{AdditionalFieldV3}

-- what is left of it without its `must_understand`, and whether it must be understood
pub record AdditionalField : Type 0 where
  pub value : Data
  pub must_understand : Bool

abbrev pub additional_field_seen : AdditionalFieldV3 → AdditionalField
additional_field_seen a = record { value = view a.field; must_understand = a.must_understand }

-- a boolean counts, anything else counts as true
abbrev pub unless_false : Option Data → Bool
unless_false (Some (boolean b)) = b
unless_false _ = true

-- An object gives up its `must_understand` key; a value that is no object must be understood.
abbrev pub additional_field_of : Data → AdditionalField
additional_field_of (object ms) = record {
  value = object (without (codes "must_understand") ms);
  must_understand = unless_false (get_member (codes "must_understand") ms);
}
additional_field_of d = record { value = d; must_understand = true }

-- An object is written with its `must_understand`, in place of a key of that name.
abbrev pub with_must_understand : Bool → Data → Data
with_must_understand b (object ms) = object (put (codes "must_understand") (boolean b) ms)
with_must_understand b d = d

abbrev pub additional_field_data : AdditionalField → Data
additional_field_data a = with_must_understand a.must_understand a.value

-- every value says one
abbrev pub some_field : Data → Option AdditionalField
some_field d = Some (additional_field_of d)

-- What a field reads back as: an object as it is, and any other value as one that must be
-- understood.
abbrev pub normal_field_by : Data → Bool → AdditionalField
normal_field_by (object ms) b = record { value = object ms; must_understand = b }
normal_field_by d b = record { value = d; must_understand = true }

abbrev pub normal_field : AdditionalField → AdditionalField
normal_field a = normal_field_by a.value a.must_understand
