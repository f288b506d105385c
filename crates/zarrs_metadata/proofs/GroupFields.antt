-- The additional fields of a document that was read are orderly, and stay as they are.
use Rattle.std.proofs.Common.{◌≡◌, ℕ, Bool, true, false, cond, List, ◌∷◌, Less, Some, Result, Ok, Err, IfOk, codes}
use Rattle.std.proofs.Common.{nat_cmp, refl, subst, ◌∙◌}
use Rattle.std.specs.Cmp.Lexicographic.{slice_cmp}
use Rattle.serde_json.specs.Data.{Data, null, boolean, number, string, array, object, Members, no_members, member}
use Rattle.serde_json.specs.Find.{get_member}
use Rattle.zarrs_metadata_parts.specs.AdditionalField.{AdditionalField, additional_field_of, additional_field_data}
use Rattle.zarrs_metadata_values.specs.Reading.{object_or_empty, Reads}
use Rattle.zarrs_metadata_values.specs.Rising.{IsBelowMembers, Rises, MembersRise}
use Rattle.zarrs_metadata_values.specs.declared.error.MetadataError.{MetadataError}
use Rattle.zarrs_metadata_values.proofs.EachLemmas.{bind_some}
use Rattle.zarrs_metadata_values.proofs.FormLemmas.{object_of}
use Rattle.zarrs_metadata_parts.specs.Fields.{is_kind}
use Rattle.zarrs_metadata_parts.proofs.RisingLemmas.{no_mark, read_is_normal}
use Rattle.zarrs_metadata_parts.specs.AdditionalFields.{is_null, is_no_field, additional_fields_of, normal_fields}
use Rattle.zarrs_metadata_parts.specs.AdditionalFields.{normal_each, IsKeyBelow, AreOrderly}
use Rattle.zarrs_metadata.specs.GroupMetadata.{GroupFields, group_members, group_of, group_seen, normal_group}
use Rattle.zarrs_metadata_parts.specs.declared.v3.additional_fields.NodeKind.{NodeKind}
use Rattle.zarrs_metadata_parts.specs.declared.v3.additional_fields.NodeKind.TheVariants.{Array, Group}
use Rattle.zarrs_metadata.specs.declared.v3.group.GroupMetadataV3.{GroupMetadataV3}
use Rattle.zarrs_metadata_parts.proofs.FieldsBack.{orderly_fields_read_back}

same_null : (d : Data) → is_null (additional_field_data (additional_field_of d)) ≡ is_null d
same_null null = refl
same_null (boolean b) = refl
same_null (number n) = refl
same_null (string s) = refl
same_null (array ds) = refl
same_null (object ms) = refl

same_place : (kind : NodeKind) (k : List ℕ) (d : Data) →
    is_no_field kind k (additional_field_data (additional_field_of d)) ≡ is_no_field kind k d
same_place Array k d = refl
same_place Group k d = rw (same_null d)

below_at : (left_out : Bool) (j k : List ℕ) (field : AdditionalField) (fs : List (List ℕ × AdditionalField)) →
    slice_cmp nat_cmp j k ≡ Less → IsKeyBelow j fs → IsKeyBelow j (cond left_out fs ((k, field) ∷ fs))
below_at true j k field fs lt h = h
below_at false j k field fs lt h = (lt, h)

below_fields : (kind : NodeKind) (j : List ℕ) (ms : Members) → IsBelowMembers j ms →
    IsKeyBelow j (additional_fields_of kind ms)
below_fields kind j no_members h = tt
below_fields kind j (member k d ms) h = below_at (is_no_field kind k d) j k (additional_field_of d)
    (additional_fields_of kind ms) h.0 (below_fields kind j ms h.1)

orderly_at : (left_out : Bool) (kind : NodeKind) (k : List ℕ) (d : Data) (fs : List (List ℕ × AdditionalField)) →
    is_no_field kind k d ≡ left_out → Rises d → IsKeyBelow k fs → AreOrderly kind fs
    → AreOrderly kind (cond left_out fs ((k, additional_field_of d) ∷ fs))
orderly_at true kind k d fs is rises below h = h
orderly_at false kind k d fs is rises below h = (same_place kind k d ∙ is, no_mark d rises, below, h)

pub read_fields_are_orderly : (kind : NodeKind) (ms : Members) → MembersRise ms →
    AreOrderly kind (additional_fields_of kind ms)
read_fields_are_orderly kind no_members h = tt
read_fields_are_orderly kind (member k d ms) h =
    orderly_at (is_no_field kind k d) kind k d (additional_fields_of kind ms) refl h.0 (below_fields kind k ms h.1)
    (read_fields_are_orderly kind ms h.2)

normal_at : (left_out : Bool) (k : List ℕ) (d : Data) (fs : List (List ℕ × AdditionalField)) → normal_each fs ≡ fs
    → normal_each (cond left_out fs ((k, additional_field_of d) ∷ fs)) ≡
    cond left_out fs ((k, additional_field_of d) ∷ fs)
normal_at true k d fs h = h
normal_at false k d fs h = rw (read_is_normal d, h)

each_is_normal : (kind : NodeKind) (ms : Members) →
    normal_each (additional_fields_of kind ms) ≡ additional_fields_of kind ms
each_is_normal kind no_members = refl
each_is_normal kind (member k d ms) =
    normal_at (is_no_field kind k d) k d (additional_fields_of kind ms) (each_is_normal kind ms)

pub fields_kept : (kind : NodeKind) (ms : Members) → MembersRise ms →
    normal_fields kind (additional_fields_of kind ms) ≡ additional_fields_of kind ms
fields_kept kind ms h = orderly_fields_read_back kind (additional_fields_of kind ms) (read_fields_are_orderly kind ms h)
    ∙ each_is_normal kind ms

group_fields_of : (ms : Members) (g : GroupFields) → group_members ms ≡ Some g →
    g.additional_fields ≡ additional_fields_of Group ms
unfolding group_members
group_fields_of ms g e =
    let a = bind_some (is_kind 3 (codes "group") ms) _ g e in
    let b = bind_some (object_or_empty (get_member (codes "attributes") ms)) _ g a.2 in
    let same = b.2 in
    cc

group_kept : (d : Data) (g : GroupFields) → Rises d → group_of d ≡ Some g →
    normal_fields Group g.additional_fields ≡ g.additional_fields
group_kept d g h e =
    let o = object_of group_members d g e in
    rw (group_fields_of o.0 g o.2) (fields_kept Group o.0 (subst Rises o.1 h))

-- a group that was read is the same when it is written and read again
pub group_again : (d : Data) (g : GroupFields) → Rises d → group_of d ≡ Some g → normal_group g ≡ g
group_again d g h e = rw (group_kept d g h e)

-- what a reader returned
pub read_group_stays : (d : Data) (r : Result GroupMetadataV3 MetadataError) → Rises d →
    Reads group_seen r (group_of d) → IfOk r (λ g. normal_group (group_seen g) ≡ group_seen g)
read_group_stays d (Ok g) h e = group_again d (group_seen g) h e
read_group_stays d (Err e) h is = tt
