-- What is written for an array or a group, read again.
use Rattle.std.proofs.Common.{◌≡◌, ℕ, List, [], ◌∷◌, map, Option, Some, None, codes, nat_cmp, true, refl, sym, ◌∙◌}
use Rattle.std.specs.Cmp.Lexicographic.{slice_cmp}
use Rattle.std.specs.Ordering.{match_ordering}
use Rattle.serde_json.specs.Data.{Data, string, array, Items, no_items, item, Members, no_members}
use Rattle.serde_json.specs.Find.{get_member, as_str}
use Rattle.serde_json.specs.View.{items_of}
use Rattle.zarrs_metadata_values.specs.Forms.{first, second}
use Rattle.zarrs_metadata_values.specs.Reading.{each, null_or, is_number, is_text}
use Rattle.zarrs_metadata_values.specs.Writing.{null_or_data, put_list}
use Rattle.zarrs_metadata_parts.specs.MetadataV3.{Extension, extension_data, normal_form}
use Rattle.zarrs_metadata_values.proofs.PutLemmas.{look}
use Rattle.zarrs_metadata_parts.proofs.ExtensionLemmas.{extension_reads_back}
use Rattle.zarrs_metadata_values.proofs.NumberLists.{whole_numbers_read_back}
use Rattle.zarrs_metadata_values.proofs.PutObject.{either_way, look_object, object_back}
use Rattle.zarrs_metadata_parts.proofs.ReadBack.{extensions_read_back}
use Rattle.zarrs_metadata_parts.specs.AdditionalFields.{is_array_key, is_named_key, additional_fields_of, put_fields}
use Rattle.zarrs_metadata_parts.specs.DimensionNames.{dimension_names, dimension_names_data}
use Rattle.zarrs_metadata_parts.specs.Fields.{is_kind}
use Rattle.zarrs_metadata.specs.ArrayMetadata.{ArrayFields, extensions_or_none, named_fields, required_fields}
use Rattle.zarrs_metadata.specs.ArrayMetadata.{optional_fields, array_members, array_fields_of, put_names}
use Rattle.zarrs_metadata.specs.ArrayMetadata.{optional_data, required_data, array_data, normal_array, required_part}
use Rattle.zarrs_metadata.specs.ArrayMetadata.{optional_part}
use Rattle.zarrs_metadata.specs.GroupMetadata.{GroupFields, group_data, group_data_members}
use Rattle.zarrs_metadata.specs.Node.{NodeFields, node_of, node_data, normal_node}
use Rattle.zarrs_metadata_parts.specs.declared.v3.additional_fields.NodeKind.TheVariants.{Array}
use Rattle.zarrs_metadata_parts.proofs.FieldsBack.{fields-put_named, fields_beside, look-put_fields}
use Rattle.zarrs_metadata.proofs.GroupBack.{fields_object, group_reads_back}

-- ---- what is found after a member that is put only where it isn't empty

abbrev list_found : Items → Option Data → Option Data
list_found no_items before = before
list_found (item d ds) before = Some (array (item d ds))

abbrev names_found : Option (List (Option (List ℕ))) → Option Data → Option Data
names_found None before = before
names_found (Some names) before = Some (dimension_names_data names)

look_list : (q k : List ℕ) (ds : Items) (ms : Members) → get_member q (put_list k ds ms) ≡
    match_ordering (slice_cmp nat_cmp q k) (get_member q ms) (list_found ds (get_member q ms)) (get_member q ms)
look_list q k no_items ms = sym (either_way (slice_cmp nat_cmp q k) (get_member q ms))
look_list q k (item d ds) ms = look q k (array (item d ds)) ms

look_names : (q : List ℕ) (names : Option (List (Option (List ℕ)))) (ms : Members)
    → get_member q (put_names names ms) ≡ match_ordering (slice_cmp nat_cmp q (codes "dimension_names"))
    (get_member q ms) (names_found names (get_member q ms)) (get_member q ms)
look_names q None ms = sym (either_way (slice_cmp nat_cmp q (codes "dimension_names")) (get_member q ms))
look_names q (Some names) ms = look q (codes "dimension_names") (dimension_names_data names) ms

-- ---- the additional fields beside it

fields_list : (k : List ℕ) (ds : Items) (ms : Members) → is_named_key Array k ≡ true →
    additional_fields_of Array (put_list k ds ms) ≡ additional_fields_of Array ms
fields_list k no_items ms named = refl
fields_list k (item d ds) ms named = fields-put_named Array k (array (item d ds)) ms named

fields_names : (names : Option (List (Option (List ℕ)))) (ms : Members) →
    additional_fields_of Array (put_names names ms) ≡ additional_fields_of Array ms
unfolding is_array_key
fields_names None ms = refl
fields_names (Some names) ms =
    fields-put_named Array (codes "dimension_names") (dimension_names_data names) ms refl

fields_optional : (f : ArrayFields) (ms : Members) →
    additional_fields_of Array (optional_data f ms) ≡ additional_fields_of Array ms
unfolding optional_data is_array_key
fields_optional f ms =
    fields_object Array (codes "attributes") f.attributes _ refl
    ∙ fields_list (codes "storage_transformers") (items_of (map extension_data f.storage_transformers)) _ refl
    ∙ fields_names f.dimension_names ms

fields_required : (f : ArrayFields) (ms : Members) →
    additional_fields_of Array (required_data f ms) ≡ additional_fields_of Array ms
unfolding required_data is_array_key
fields_required f ms = rw (
  fields_beside Array (codes "zarr_format") refl,
  fields_beside Array (codes "node_type") refl,
  fields_beside Array (codes "shape") refl,
  fields_beside Array (codes "fill_value") refl,
  fields_beside Array (codes "data_type") refl,
  fields_beside Array (codes "chunk_grid") refl,
  fields_beside Array (codes "chunk_key_encoding") refl,
  fields_beside Array (codes "codecs") refl,
)

-- ---- the parts that are always there

array_again : (f : ArrayFields) (ms : Members) → is_kind 3 (codes "array") (required_data f ms) ≡ Some tt
unfolding is_kind required_data is_number is_text
array_again f ms = simp look

required_back : (f : ArrayFields) (ms : Members) →
    required_fields (required_data f ms) ≡ Some (required_part (normal_array f))
unfolding required_fields named_fields required_data
required_back f ms = simp (
  look,
  whole_numbers_read_back,
  extension_reads_back,
  extensions_read_back,
)

-- ---- the parts that may be there

transformers_back : (es : List Extension) →
    extensions_or_none (list_found (items_of (map extension_data es)) None) ≡ Some (map normal_form es)
unfolding extensions_or_none
transformers_back [] = refl
transformers_back (e ∷ es) = extensions_read_back (e ∷ es)

name_back : (name : Option (List ℕ)) → null_or as_str (null_or_data string name) ≡ Some name
name_back None = refl
name_back (Some s) = refl

each_name_back : (names : List (Option (List ℕ))) →
    each (null_or as_str) (items_of (map (null_or_data string) names)) ≡ Some names
each_name_back [] = refl
each_name_back (name ∷ names) = rw (name_back name, each_name_back names)

names_back : (names : Option (List (Option (List ℕ)))) → dimension_names (names_found names None) ≡ Some names
names_back None = refl
names_back (Some names) = rw (each_name_back names)

no_attributes : (fs : _) → get_member (codes "attributes") (put_fields Array fs no_members) ≡ None
unfolding is_array_key
no_attributes fs = look-put_fields Array (codes "attributes") fs no_members refl

no_transformers : (fs : _) → get_member (codes "storage_transformers") (put_fields Array fs no_members) ≡ None
unfolding is_array_key
no_transformers fs = look-put_fields Array (codes "storage_transformers") fs no_members refl

no_names : (fs : _) → get_member (codes "dimension_names") (put_fields Array fs no_members) ≡ None
unfolding is_array_key
no_names fs = look-put_fields Array (codes "dimension_names") fs no_members refl

optional_back : (f : ArrayFields) →
    optional_fields (required_data f (optional_data f (put_fields Array f.additional_fields no_members))) ≡
    Some (optional_part (normal_array f))
unfolding optional_fields required_data optional_data
optional_back f = simp (
  look,
  look_object,
  look_list,
  look_names,
  no_attributes,
  no_transformers,
  no_names,
  object_back,
  transformers_back,
  names_back,
  fields_required,
  fields_optional,
)

pub array_reads_back : (f : ArrayFields) → array_fields_of (array_data f) ≡ Some (normal_array f)
unfolding array_members
array_reads_back f =
    let ms : Members = optional_data f (put_fields Array f.additional_fields no_members) in
    rw (array_again f ms, required_back f ms, optional_back f)

-- a group is no array
pub group_is_no_array : (g : GroupFields) → array_fields_of (group_data g) ≡ None
unfolding array_members is_kind group_data_members is_number is_text
group_is_no_array g = simp look

pub node_reads_back : (n : NodeFields) → node_of (node_data n) ≡ Some (normal_node n)
node_reads_back (first a) = rw (array_reads_back a)
node_reads_back (second g) = rw (group_is_no_array g, group_reads_back g)
