-- What is written for a group, read again; and members that are put only where they are not empty.
use Rattle.std.proofs.Common.{◌≡◌, ℕ, List, Some, None, codes, true, refl}
use Rattle.serde_json.specs.Data.{unsigned, number, object, Members, no_members, member}
use Rattle.serde_json.specs.Find.{get_member}
use Rattle.zarrs_metadata_values.specs.Reading.{is_number, is_text}
use Rattle.zarrs_metadata_values.specs.Writing.{put_object}
use Rattle.zarrs_metadata_values.proofs.PutLemmas.{look}
use Rattle.zarrs_metadata_values.proofs.PutObject.{look_object, object_back}
use Rattle.zarrs_metadata_parts.specs.AdditionalFields.{is_group_key, is_named_key, additional_fields_of, put_fields}
use Rattle.zarrs_metadata_parts.specs.Fields.{is_kind}
use Rattle.zarrs_metadata.specs.GroupMetadata.{GroupFields, group_members, group_of, group_data_members, group_data}
use Rattle.zarrs_metadata.specs.GroupMetadata.{normal_group}
use Rattle.zarrs_metadata_parts.specs.declared.v3.additional_fields.NodeKind.{NodeKind}
use Rattle.zarrs_metadata_parts.specs.declared.v3.additional_fields.NodeKind.TheVariants.{Group}
use Rattle.zarrs_metadata_parts.proofs.FieldsBack.{fields-put_named, fields_beside, look-put_fields}

pub fields_object : (kind : NodeKind) (k : List ℕ) (ns ms : Members) → is_named_key kind k ≡ true →
    additional_fields_of kind (put_object k ns ms) ≡ additional_fields_of kind ms
fields_object kind k no_members ms named = refl
fields_object kind k (member l e ns) ms named = fields-put_named kind k (object (member l e ns)) ms named

pub group_format : (g : GroupFields) (ms : Members) →
    get_member (codes "zarr_format") (group_data_members g ms) ≡ Some (number (unsigned 3))
unfolding group_data_members
group_format g ms = simp look

group_fields : (g : GroupFields) (ms : Members) →
    additional_fields_of Group (group_data_members g ms) ≡ additional_fields_of Group ms
unfolding group_data_members is_group_key
group_fields g ms = rw (
  fields_beside Group (codes "zarr_format") refl,
  fields_beside Group (codes "node_type") refl,
  fields_object Group (codes "attributes") g.attributes ms refl,
)

no_group_attributes : (fs : _) → get_member (codes "attributes") (put_fields Group fs no_members) ≡ None
unfolding is_group_key
no_group_attributes fs = look-put_fields Group (codes "attributes") fs no_members refl

pub group_reads_back : (g : GroupFields) → group_of (group_data g) ≡ Some (normal_group g)
unfolding group_members group_data_members is_kind is_number is_text
group_reads_back g = simp (
  look,
  look_object,
  no_group_attributes,
  object_back,
  group_fields,
)
