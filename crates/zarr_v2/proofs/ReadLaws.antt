-- The fill value and the attributes of a version 2 document that was read: what holds of all members of
-- its value holds of them.
use Rattle.std.proofs.Common.{◌≡◌, ◌∙◌, ap, subst, refl, Bool, true, false, cond, Option, Some, None, Ok, Err, codes}
use Rattle.serde_json.specs.Data.{Data, null, boolean, number, string, array, object, Members, no_members}
use Rattle.serde_json.specs.Find.{get_member}
use Rattle.serde_json.specs.Written.{has_float}
use Rattle.zarrs_metadata_values.specs.Reading.{◌>>=◌, list_by, read_under, is_number, whole_numbers, positive_number}
use Rattle.zarrs_metadata_values.specs.Reading.{object_or_empty, or_invalid, from_json}
use Rattle.zarrs_metadata_values.specs.declared.error.MetadataError.TheVariants.{FloatNumber}
use Rattle.zarrs_metadata_values.proofs.EachLemmas.{bind_some}
use Rattle.zarrs_metadata_values.proofs.FormLemmas.{object_of}
use Rattle.zarrs_metadata_parts.specs.DataTypeV2.{data_type_v2_of}
use Rattle.zarrs_metadata_v2.specs.CodecsV2.{compressor_of, filters_of}
use Rattle.zarrs_metadata_v2.specs.ArrayMetadataV2.{ArrayV2, OptionalV2, array_order_of, dimension_separator_of}
use Rattle.zarrs_metadata_v2.specs.ArrayMetadataV2.{text_under, required_v2, optional_v2, array_v2_members, array_v2_of}
use Rattle.zarr_v2.proofs.MemberLaws.{AllMembers, all_found}

-- where they stand in its value
pub record StandsIn (ms : Members) (a : ArrayV2) : Type 0 where
  pub fill : get_member (codes "fill_value") ms ≡ Some a.fill_value
  pub attributes : object_or_empty (get_member (codes "attributes") ms) ≡ Some a.attributes

fill_in : (ms : Members) (a : ArrayV2) → required_v2 ms ≡ Some a →
    get_member (codes "fill_value") ms ≡ Some a.fill_value
unfolding required_v2
fill_in ms a e =
    let order = bind_some (text_under (codes "order") array_order_of ms) _ a e in
    let shape = bind_some (read_under (codes "shape") whole_numbers ms) _ a order.2 in
    let chunks = bind_some (read_under (codes "chunks") (list_by positive_number) ms) _ a shape.2 in
    let dtype = bind_some (read_under (codes "dtype") data_type_v2_of ms) _ a chunks.2 in
    let fill = bind_some (get_member (codes "fill_value") ms) _ a dtype.2 in
    let same = fill.2 in
    let is : fill.0 ≡ a.fill_value = cc in
    fill.1 ∙ ap (λ (d : Data). Some d) is

attributes_in : (ms : Members) (o : OptionalV2) → optional_v2 ms ≡ Some o →
    object_or_empty (get_member (codes "attributes") ms) ≡ Some o.attributes
unfolding optional_v2
attributes_in ms o e =
    let separator = bind_some (dimension_separator_of (get_member (codes "dimension_separator") ms)) _ o e in
    let compressor = bind_some (compressor_of (get_member (codes "compressor") ms)) _ o separator.2 in
    let filters = bind_some (filters_of (get_member (codes "filters") ms)) _ o compressor.2 in
    let attributes = bind_some (object_or_empty (get_member (codes "attributes") ms)) _ o filters.2 in
    let same = attributes.2 in
    let is : attributes.0 ≡ o.attributes = cc in
    attributes.1 ∙ ap (λ (m : Members). Some m) is

stands_in : (ms : Members) (a : ArrayV2) → array_v2_members ms ≡ Some a → StandsIn ms a
unfolding array_v2_members
stands_in ms a e =
    let format = bind_some (get_member (codes "zarr_format") ms >>= is_number 2) _ a e in
    let fields = bind_some (required_v2 ms) _ a format.2 in
    let optional = bind_some (optional_v2 ms) _ a fields.2 in
    let same = optional.2 in
    let filled : (fields.0).fill_value ≡ a.fill_value = cc in
    let attributed : (optional.0).attributes ≡ a.attributes = cc in record {
      fill = fill_in ms fields.0 fields.1 ∙ ap (λ (d : Data). Some d) filled;
      attributes = attributes_in ms optional.0 optional.1 ∙ ap (λ (m : Members). Some m) attributed;
    }

-- the object that a document is
pub record IsRead (d : Data) (a : ArrayV2) : Type 0 where
  pub members : Members
  pub is : d ≡ object members
  pub stands : StandsIn members a

pub is_read : (d : Data) (a : ArrayV2) → array_v2_of d ≡ Some a → IsRead d a
is_read d a e =
    let o = object_of array_v2_members d a e in record { members = o.0; is = o.1; stands = stands_in o.0 a o.2 }

-- a text that is a document has a value without floats
pub record IsOfText (o : Option Data) (a : ArrayV2) : Type 0 where
  pub value : Data
  pub is : o ≡ Some value
  pub whole : has_float value ≡ false
  pub reads : array_v2_of value ≡ Some a

valid : (o : Option ArrayV2) (a : ArrayV2) → or_invalid o ≡ Ok a → o ≡ Some a
valid None a e = absurd cc
valid (Some b) a e = let same : b ≡ a = cc in ap (λ (x : ArrayV2). Some x) same

pub is_of_text : (o : Option Data) (a : ArrayV2) → from_json array_v2_of o ≡ Ok a → IsOfText o a
is_of_text None a e = absurd cc
is_of_text (Some d) a e = go (has_float d) refl e
  where
    go : (b : Bool) → has_float d ≡ b → cond b (Err FloatNumber) (or_invalid (array_v2_of d)) ≡ Ok a →
        IsOfText (Some d) a
    go true is e = absurd cc
    go false is e = record { value = d; is = refl; whole = is; reads = valid (array_v2_of d) a e }

module _ (P : Data → Type 0) (ms : Members) (all : AllMembers P ms) where
  pub of_fill : (a : ArrayV2) → StandsIn ms a → P a.fill_value
  of_fill a stands = all_found P (codes "fill_value") ms a.fill_value all stands.fill

  if_object : (o : Option Data) (ns : Members) → P (object no_members) → ((d : Data) → o ≡ Some d → P d) →
      object_or_empty o ≡ Some ns → P (object ns)
  unfolding object_or_empty
  if_object None ns empty found e = let same : no_members ≡ ns = cc in subst (λ (m : Members). P (object m)) same empty
  if_object (Some null) ns empty found e = absurd cc
  if_object (Some (boolean b)) ns empty found e = absurd cc
  if_object (Some (number n)) ns empty found e = absurd cc
  if_object (Some (string s)) ns empty found e = absurd cc
  if_object (Some (array ds)) ns empty found e = absurd cc
  if_object (Some (object m)) ns empty found e = let same : m ≡ ns = cc in
      subst (λ (x : Members). P (object x)) same (found (object m) refl)

  pub of_attributes : (a : ArrayV2) → StandsIn ms a → P (object no_members) → P (object a.attributes)
  of_attributes a stands empty =
      if_object (get_member (codes "attributes") ms) a.attributes empty
      (λ d is. all_found P (codes "attributes") ms d all is) stands.attributes
