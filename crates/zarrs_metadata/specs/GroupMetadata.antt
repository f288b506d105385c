-- A version 3 group document: what it says, how it is read and how it is written.
use Rattle.std.specs.Prelude.{ℕ, List, Option, Some, codes}
use Rattle.serde_json.specs.Data.{Data, object, Members, no_members}
use Rattle.serde_json.specs.Find.{get_member, as_object}
use Rattle.serde_json.specs.View.{members_view}
use Rattle.zarrs_metadata_values.specs.Reading.{◌>>=◌, object_or_empty}
use Rattle.zarrs_metadata_values.specs.Writing.{put_object}
use Rattle.zarrs_metadata_parts.specs.Fields.{is_kind, put_node_kind}
use Rattle.zarrs_metadata_parts.specs.AdditionalField.{AdditionalField}
use Rattle.zarrs_metadata_parts.specs.AdditionalFields.{additional_fields_seen, additional_fields_of, put_fields}
use Rattle.zarrs_metadata_parts.specs.AdditionalFields.{normal_fields}
use Rattle.zarrs_metadata_parts.specs.declared.v3.additional_fields.NodeKind.TheVariants.{Group}
use Rattle.zarrs_metadata.specs.declared.v3.group.GroupMetadataV3.{GroupMetadataV3}

pub record GroupFields : Type 0 where
  pub attributes : Members
  pub additional_fields : List (List ℕ × AdditionalField)

abbrev pub group_seen : GroupMetadataV3 → GroupFields
group_seen g = record {
  attributes = members_view g.attributes.entries;
  additional_fields = additional_fields_seen g.additional_fields.entries;
}

-- `zarr_format` is 3, `node_type` is `group`, `attributes` is an object if it is there; every other
-- key is an additional field.
unfoldable pub group_members : Members → Option GroupFields
group_members ms = do
  _ ← is_kind 3 (codes "group") ms
  attributes ← object_or_empty (get_member (codes "attributes") ms)
  Some (record { attributes = attributes; additional_fields = additional_fields_of Group ms })

abbrev pub group_of : Data → Option GroupFields
group_of d = as_object d >>= group_members

-- Written with `attributes` only where there are some, and with each additional field under its
-- key.
unfoldable pub group_data_members : GroupFields → Members → Members
group_data_members g ms =
    put_node_kind 3 (codes "group") (put_object (codes "attributes") g.attributes ms)

abbrev pub group_data : GroupFields → Data
group_data g = object (group_data_members g (put_fields Group g.additional_fields no_members))

-- What a document reads back as, once it is written.
abbrev pub normal_group : GroupFields → GroupFields
normal_group g = record g { additional_fields = normal_fields Group g.additional_fields }
