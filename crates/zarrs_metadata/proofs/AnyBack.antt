-- What is written for a document of either version, read again.
use Rattle.std.proofs.Common.{◌≡◌, Some, None, codes, refl}
use Rattle.serde_json.specs.Data.{unsigned, number, Members, no_members}
use Rattle.serde_json.specs.Find.{get_member}
use Rattle.serde_json.proofs.Views.{get_member-put}
use Rattle.zarrs_metadata_values.specs.Forms.{first, second}
use Rattle.zarrs_metadata_values.specs.Reading.{is_number}
use Rattle.zarrs_metadata_parts.specs.AdditionalFields.{put_fields}
use Rattle.zarrs_metadata_parts.specs.declared.v3.additional_fields.NodeKind.TheVariants.{Group}
use Rattle.zarrs_metadata_parts.specs.Fields.{is_kind}
use Rattle.zarrs_metadata.specs.ArrayMetadata.{array_members, array_fields_of}
use Rattle.zarrs_metadata.specs.GroupMetadata.{GroupFields, group_members, group_of, group_data}
use Rattle.zarrs_metadata.proofs.GroupBack.{group_format, group_reads_back}
use Rattle.zarrs_metadata.proofs.ArrayBack.{array_reads_back, group_is_no_array}
use Rattle.zarrs_metadata_v2.specs.ArrayMetadataV2.{ArrayV2, array_v2_members, array_v2_of, array_v2_data}
use Rattle.zarrs_metadata_v2.specs.ArrayMetadataV2.{required_data_v2, optional_data_v2}
use Rattle.zarrs_metadata_v2.specs.GroupMetadataV2.{with_format_v2, group_v2_data}
use Rattle.zarrs_metadata_v2.proofs.ArrayBack.{array_v2_reads_back}
use Rattle.zarrs_metadata_v2.proofs.GroupBack.{group_v2_reads_back}
use Rattle.zarrs_metadata.specs.AnyArray.{AnyArray, any_array_of, any_array_data, normal_any_array}
use Rattle.zarrs_metadata.specs.AnyArray.{HasAnyChunks}
use Rattle.zarrs_metadata.specs.AnyGroup.{AnyGroup, any_group_of, any_group_data, normal_any_group}
use Rattle.zarrs_metadata.specs.AnyNode.{AnyNode, any_node_of, any_node_data, normal_any_node}
use Rattle.zarrs_metadata.specs.AnyNode.{StaysItsKind}

-- ---- a document of one version is none of the other

no_array : (ms : Members) → get_member (codes "zarr_format") ms ≡ Some (number (unsigned 2)) → array_members ms ≡ None
unfolding array_members is_kind is_number
no_array ms h = rw h refl

no_group : (ms : Members) → get_member (codes "zarr_format") ms ≡ Some (number (unsigned 2)) → group_members ms ≡ None
unfolding group_members is_kind is_number
no_group ms h = rw h refl

no_array_v2 : (ms : Members) → get_member (codes "zarr_format") ms ≡ Some (number (unsigned 3)) →
    array_v2_members ms ≡ None
unfolding array_v2_members is_number
no_array_v2 ms h = rw h refl

array_v2_format : (f : ArrayV2) (ms : Members) →
    get_member (codes "zarr_format") (required_data_v2 f ms) ≡ Some (number (unsigned 2))
unfolding required_data_v2
array_v2_format f ms = rw get_member-put refl

array_v2_no_array : (f : ArrayV2) → array_fields_of (array_v2_data f) ≡ None
array_v2_no_array f =
    no_array (required_data_v2 f (optional_data_v2 f no_members)) (array_v2_format f (optional_data_v2 f no_members))

pub group_v2_no_array : (attributes : Members) → array_fields_of (group_v2_data attributes) ≡ None
group_v2_no_array attributes =
    no_array (with_format_v2 attributes) (get_member-put (codes "zarr_format") (number (unsigned 2)) attributes)

group_v2_no_group : (attributes : Members) → group_of (group_v2_data attributes) ≡ None
group_v2_no_group attributes =
    no_group (with_format_v2 attributes) (get_member-put (codes "zarr_format") (number (unsigned 2)) attributes)

group_no_array_v2 : (g : GroupFields) → array_v2_of (group_data g) ≡ None
group_no_array_v2 g = no_array_v2 _ (group_format g (put_fields Group g.additional_fields no_members))

-- ---- read again

pub any_array_reads_back : (a : AnyArray) → HasAnyChunks a → any_array_of (any_array_data a) ≡ Some (normal_any_array a)
any_array_reads_back (first f) h = rw (array_reads_back f) refl
any_array_reads_back (second f) h = rw (array_v2_no_array f, array_v2_reads_back f h) refl

pub any_group_reads_back : (g : AnyGroup) → any_group_of (any_group_data g) ≡ Some (normal_any_group g)
any_group_reads_back (first g) = rw (group_reads_back g) refl
any_group_reads_back (second attributes) = rw (group_v2_no_group attributes, group_v2_reads_back attributes) refl

pub any_node_reads_back : (n : AnyNode) → StaysItsKind n → any_node_of (any_node_data n) ≡ Some (normal_any_node n)
any_node_reads_back (first a) h = rw (any_array_reads_back a h) refl
any_node_reads_back (second (first g)) h =
    rw (group_is_no_array g, group_no_array_v2 g, any_group_reads_back (first g)) refl
any_node_reads_back (second (second attributes)) h =
    rw (group_v2_no_array attributes, h, any_group_reads_back (second attributes)) refl
