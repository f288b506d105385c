-- The additional fields of an array that was read stay as they are.
use Rattle.std.proofs.Common.{◌≡◌, Option, Some, None, Result, Ok, Err, IfOk, codes, refl, subst, ◌∙◌}
use Rattle.serde_json.specs.Data.{Data, Members}
use Rattle.serde_json.specs.Find.{get_member}
use Rattle.zarrs_metadata_values.specs.Forms.{first, second, or_second}
use Rattle.zarrs_metadata_values.specs.Reading.{object_or_empty, Reads}
use Rattle.zarrs_metadata_values.specs.declared.error.MetadataError.{MetadataError}
use Rattle.zarrs_metadata_values.specs.Rising.{Rises}
use Rattle.zarrs_metadata_values.proofs.EachLemmas.{bind_some}
use Rattle.zarrs_metadata_values.proofs.FormLemmas.{object_of}
use Rattle.zarrs_metadata_parts.specs.AdditionalFields.{additional_fields_of, normal_fields}
use Rattle.zarrs_metadata_parts.specs.DimensionNames.{dimension_names}
use Rattle.zarrs_metadata_parts.specs.Fields.{is_kind}
use Rattle.zarrs_metadata.specs.ArrayMetadata.{ArrayFields, OptionalFields, extensions_or_none, required_fields}
use Rattle.zarrs_metadata.specs.ArrayMetadata.{optional_fields, array_members, array_fields_of, array_seen, KeepsFields}
use Rattle.zarrs_metadata.specs.GroupMetadata.{group_of}
use Rattle.zarrs_metadata.specs.Node.{NodeFields, node_seen, node_of, KeepsNodeFields}
use Rattle.zarrs_metadata_parts.specs.declared.v3.additional_fields.NodeKind.TheVariants.{Array}
use Rattle.zarrs_metadata.specs.declared.v3.array.ArrayMetadataV3.{ArrayMetadataV3}
use Rattle.zarrs_metadata.specs.declared.v3.node.NodeMetadataV3.{NodeMetadataV3}
use Rattle.zarrs_metadata.proofs.GroupFields.{fields_kept, group_again}

optional_parts : (ms : Members) (o : OptionalFields) → optional_fields ms ≡ Some o →
    o.additional_fields ≡ additional_fields_of Array ms
unfolding optional_fields
optional_parts ms o e =
    let a = bind_some (object_or_empty (get_member (codes "attributes") ms)) _ o e in
    let b = bind_some (extensions_or_none (get_member (codes "storage_transformers") ms)) _ o a.2 in
    let c = bind_some (dimension_names (get_member (codes "dimension_names") ms)) _ o b.2 in
    let same = c.2 in
    cc

array_fields : (ms : Members) (f : ArrayFields) → array_members ms ≡ Some f →
    f.additional_fields ≡ additional_fields_of Array ms
unfolding array_members
array_fields ms f e =
    let a = bind_some (is_kind 3 (codes "array") ms) _ f e in
    let b = bind_some (required_fields ms) _ f a.2 in
    let c = bind_some (optional_fields ms) _ f b.2 in
    let same = c.2 in
    let is : f.additional_fields ≡ (c.0).additional_fields = cc in
    is ∙ optional_parts ms c.0 c.1

-- an array that was read keeps its additional fields
pub array_kept : (d : Data) (f : ArrayFields) → Rises d → array_fields_of d ≡ Some f →
    normal_fields Array f.additional_fields ≡ f.additional_fields
array_kept d f h e =
    let o = object_of array_members d f e in
    rw (array_fields o.0 f o.2) (fields_kept Array o.0 (subst Rises o.1 h))

array_or_group : (o : Option ArrayFields) (d : Data) (n : NodeFields) → Rises d → array_fields_of d ≡ o →
    or_second (group_of d) o ≡ Some n → KeepsNodeFields n
array_or_group (Some a) d n h is e = let same : first a ≡ n = cc in rw (← same) (array_kept d a h is)
array_or_group None d n h is e =
    let g = bind_some (group_of d) _ n e in
    let same : second g.0 ≡ n = cc in
    rw (← same) (group_again d g.0 h g.1)

node_kept : (d : Data) (n : NodeFields) → Rises d → node_of d ≡ Some n → KeepsNodeFields n
node_kept d n h e = array_or_group (array_fields_of d) d n h refl e

-- ---- what a reader returned

pub read_array_kept : (d : Data) (r : Result ArrayMetadataV3 MetadataError) → Rises d →
    Reads array_seen r (array_fields_of d) → IfOk r (λ a. KeepsFields (array_seen a))
read_array_kept d (Ok a) h e = array_kept d (array_seen a) h e
read_array_kept d (Err e) h is = tt

pub read_node_kept : (d : Data) (r : Result NodeMetadataV3 MetadataError) → Rises d → Reads node_seen r (node_of d) →
    IfOk r (λ n. KeepsNodeFields (node_seen n))
read_node_kept d (Ok n) h e = node_kept d (node_seen n) h e
read_node_kept d (Err e) h is = tt
