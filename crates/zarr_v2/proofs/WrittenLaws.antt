-- A translated document as a value: it holds no float, nests no deeper than a text may, and is read as the
-- same fields.
use Rattle.std.proofs.Common.{◌≡◌, ◌∙◌, ap, subst, refl, ℕ, ◌≤◌, suc, false, List, [], ◌∷◌, map, length, Option, Some}
use Rattle.std.proofs.Common.{None, codes, arith}
use Rattle.serde_json.specs.Data.{Data, null, boolean, number, string, array, object, unsigned, Members, no_members}
use Rattle.serde_json.specs.Data.{depth, items_depth}
use Rattle.serde_json.specs.View.{items_of}
use Rattle.serde_json.specs.Written.{has_float, items_have_float}
use Rattle.zarr_model.specs.declared.endianness.Endianness.{Endianness}
use Rattle.zarrs_metadata_values.specs.Forms.{first, or_second}
use Rattle.zarrs_metadata_values.specs.Writing.{number_data, numbers_data}
use Rattle.zarrs_metadata_parts.specs.MetadataV3.{extension_data, normal_form}
use Rattle.zarrs_metadata_parts.specs.Names.{separator_text}
use Rattle.zarrs_metadata.specs.ArrayMetadata.{ArrayFields, array_data, normal_array, required_data, optional_data}
use Rattle.zarrs_metadata.specs.AnyArray.{any_array_of}
use Rattle.zarrs_metadata.proofs.ArrayBack.{array_reads_back}
use Rattle.zarrs_metadata_v2.specs.ArrayMetadataV2.{ArrayV2, array_v2_of}
use Rattle.zarrs_metadata_v2.specs.declared.array.order.ArrayMetadataV2Order.{ArrayMetadataV2Order}
use Rattle.zarrs_metadata_v2.specs.declared.array.order.ArrayMetadataV2Order.TheVariants.{C, F}
use Rattle.zarrs_data_type.specs.FillMetadata.{fill_of}
use Rattle.zarr_v2.specs.declared.element_type.ElementType.{ElementType}
use Rattle.zarr_v2.specs.declared.element_type.ElementType.TheVariants.{Bool as BoolType, Int8, Int16, Int32, Int64}
use Rattle.zarr_v2.specs.declared.element_type.ElementType.TheVariants.{UInt8, UInt16, UInt32, UInt64}
use Rattle.zarr_v2.specs.declared.element_type.StoredType.{StoredType}
use Rattle.zarr_v2.specs.ElementType.{element_type, type_text}
use Rattle.zarr_v2.specs.Translate.{configured_by, reversed_order, endian_text, grid_v2, keys_v2, bytes_v2}
use Rattle.zarr_v2.specs.Translate.{transpose_v2, codecs_v2, zero_fill, if_denotes, fill_v2, fields_v2}
use Rattle.zarr_v2.proofs.MemberLaws.{AllMembers, all_put, all_put_object, IsWhole, neither, whole_of, IsWithin}
use Rattle.zarr_v2.proofs.MemberLaws.{within_of}

-- the fill value is the document's own, or zero
module _ (P : Data → Type 0) (zero : P (number (unsigned 0))) (no : P (boolean false)) where
  zero_holds : (e : ElementType) → P (zero_fill e)
  zero_holds BoolType = no
  zero_holds Int8 = zero
  zero_holds Int16 = zero
  zero_holds Int32 = zero
  zero_holds Int64 = zero
  zero_holds UInt8 = zero
  zero_holds UInt16 = zero
  zero_holds UInt32 = zero
  zero_holds UInt64 = zero

  denoted : (o : Option (List ℕ)) (d fill : Data) → P d → if_denotes o d ≡ Some fill → P fill
  denoted None d fill h e = absurd cc
  denoted (Some bytes) d fill h e = let same : d ≡ fill = cc in subst P same h

  pub fill_holds : (e : ElementType) (d fill : Data) → P d → fill_v2 e d ≡ Some fill → P fill
  fill_holds e null fill h is = let same : zero_fill e ≡ fill = cc in subst P same (zero_holds e)
  fill_holds e (boolean b) fill h is = denoted (fill_of (element_type e) (boolean b)) (boolean b) fill h is
  fill_holds e (number n) fill h is = denoted (fill_of (element_type e) (number n)) (number n) fill h is
  fill_holds e (string s) fill h is = denoted (fill_of (element_type e) (string s)) (string s) fill h is
  fill_holds e (array ds) fill h is = denoted (fill_of (element_type e) (array ds)) (array ds) fill h is
  fill_holds e (object ms) fill h is = denoted (fill_of (element_type e) (object ms)) (object ms) fill h is

-- what a translated document is written of
record Holds (P : Data → Type 0) (a : ArrayV2) (s : StoredType) (fill : Data) : Type 0 where
  pub format : P (number (unsigned 3))
  pub node : P (string (codes "array"))
  pub shape : P (numbers_data a.shape)
  pub filled : P fill
  pub type : P (string (type_text s.element))
  pub grid : P (extension_data (grid_v2 a.chunks))
  pub keys : P (extension_data (keys_v2 a.dimension_separator))
  pub codecs : P (array (items_of (map extension_data (codecs_v2 a.order (length a.shape) s.order))))
  pub attributes : P (object a.attributes)

abbrev members_of : ArrayFields → Members
members_of f = required_data f (optional_data f no_members)

all_of : (P : Data → Type 0) (a : ArrayV2) (s : StoredType) (fill : Data) → Holds P a s fill →
    AllMembers P (members_of (fields_v2 a s fill))
unfolding required_data optional_data
all_of P a s fill h =
    all_put P _ _ _ h.format (all_put P _ _ _ h.node (all_put P _ _ _ h.shape (all_put P _ _ _ h.filled
    (all_put P _ _ _ h.type (all_put P _ _ _ h.grid (all_put P _ _ _ h.keys (all_put P _ _ _ h.codecs
    (all_put_object P (codes "attributes") a.attributes no_members h.attributes tt))))))))

-- without floats
whole_numbers : (ns : List ℕ) → items_have_float (items_of (map number_data ns)) ≡ false
whole_numbers [] = refl
whole_numbers (n ∷ ns) = whole_numbers ns

whole_configured : (name key : List ℕ) (d : Data) → IsWhole d → IsWhole (extension_data (configured_by name key d))
whole_configured name key d h = rw h refl

whole_bytes : (o : Option Endianness) → IsWhole (extension_data (bytes_v2 o))
whole_bytes None = refl
whole_bytes (Some order) = refl

whole_codecs : (order : ArrayMetadataV2Order) (rank : ℕ) (o : Option Endianness) →
    items_have_float (items_of (map extension_data (codecs_v2 order rank o))) ≡ false
whole_codecs C rank o = neither (has_float (extension_data (bytes_v2 o))) false (whole_bytes o) refl
whole_codecs F rank o =
    neither (has_float (extension_data (transpose_v2 rank)))
    (items_have_float (items_of (map extension_data (bytes_v2 o ∷ []))))
    (whole_configured (codes "transpose") (codes "order") (numbers_data (reversed_order rank))
    (whole_numbers (reversed_order rank)))
    (neither (has_float (extension_data (bytes_v2 o))) false (whole_bytes o) refl)

pub is_whole : (a : ArrayV2) (s : StoredType) (fill : Data) → IsWhole fill → IsWhole (object a.attributes) →
    IsWhole (array_data (fields_v2 a s fill))
is_whole a s fill filled attributes = whole_of (members_of (fields_v2 a s fill)) (all_of IsWhole a s fill (record {
  format = refl;
  node = refl;
  shape = whole_numbers a.shape;
  filled = filled;
  type = refl;
  grid = whole_configured (codes "regular") (codes "chunk_shape") (numbers_data a.chunks) (whole_numbers a.chunks);
  keys = whole_configured (codes "v2") (codes "separator") (string (separator_text a.dimension_separator)) refl;
  codecs = whole_codecs a.order (length a.shape) s.order;
  attributes = attributes;
}))

-- as deep as a text may be
flat_numbers : (ns : List ℕ) → items_depth (items_of (map number_data ns)) ≡ 0
flat_numbers [] = refl
flat_numbers (n ∷ ns) = rw (flat_numbers ns) refl

deep_configured : (name key : List ℕ) (d : Data) → depth d ≤ 1 → depth (extension_data (configured_by name key d)) ≤ 3
deep_configured name key d h = omega (arith, h)

deep_numbers : (ns : List ℕ) → depth (numbers_data ns) ≤ 1
deep_numbers ns = let flat = flat_numbers ns in omega (arith, flat)

deep_bytes : (o : Option Endianness) → depth (extension_data (bytes_v2 o)) ≤ 3
deep_bytes None = omega arith
deep_bytes (Some order) = deep_configured (codes "bytes") (codes "endian") (string (endian_text order)) (omega arith)

deep_codecs : (order : ArrayMetadataV2Order) (rank : ℕ) (o : Option Endianness) →
    items_depth (items_of (map extension_data (codecs_v2 order rank o))) ≤ 3
deep_codecs C rank o = let bytes = deep_bytes o in omega (arith, bytes)
deep_codecs F rank o =
    let bytes = deep_bytes o in
    let transpose = deep_configured (codes "transpose") (codes "order") (numbers_data (reversed_order rank))
    (deep_numbers (reversed_order rank)) in
    omega (arith, bytes, transpose)

pub is_within : (n : ℕ) (a : ArrayV2) (s : StoredType) (fill : Data) → 4 ≤ n → depth fill ≤ n →
    depth (object a.attributes) ≤ n →
    depth (array_data (fields_v2 a s fill)) ≤ suc n
is_within n a s fill room filled attributes =
    let shape = deep_numbers a.shape in
    let grid =
    deep_configured (codes "regular") (codes "chunk_shape") (numbers_data a.chunks) (deep_numbers a.chunks) in
    let keys =
    deep_configured (codes "v2") (codes "separator") (string (separator_text a.dimension_separator)) (omega arith) in
    let codecs = deep_codecs a.order (length a.shape) s.order in
    let all = within_of n (members_of (fields_v2 a s fill)) (all_of (IsWithin n) a s fill (record {
      format = omega arith;
      node = omega arith;
      shape = omega (arith, room, shape);
      filled = filled;
      type = omega arith;
      grid = omega (arith, room, grid);
      keys = omega (arith, room, keys);
      codecs = omega (arith, room, codecs);
      attributes = attributes;
    })) in
    omega (arith, all)

-- and its fields are in their normal form
normal_bytes : (o : Option Endianness) → normal_form (bytes_v2 o) ≡ bytes_v2 o
normal_bytes None = refl
normal_bytes (Some order) = refl

normal_codecs : (order : ArrayMetadataV2Order) (rank : ℕ) (o : Option Endianness) →
    map normal_form (codecs_v2 order rank o) ≡ codecs_v2 order rank o
normal_codecs C rank o = rw (normal_bytes o) refl
normal_codecs F rank o = rw (normal_bytes o) refl

is_normal : (a : ArrayV2) (s : StoredType) (fill : Data) → normal_array (fields_v2 a s fill) ≡ fields_v2 a s fill
is_normal a s fill = rw (normal_codecs a.order (length a.shape) s.order) refl

pub reads_back : (a : ArrayV2) (s : StoredType) (fill : Data) →
    any_array_of (array_data (fields_v2 a s fill)) ≡ Some (first (fields_v2 a s fill))
reads_back a s fill =
    let f = fields_v2 a s fill in
    ap (or_second (array_v2_of (array_data f))) (array_reads_back f)
    ∙ ap (λ (x : ArrayFields). Some (first x)) (is_normal a s fill)
