-- The keys that a document names, and the fields under all others.
use Rattle.std.specs.Prelude.{◌≡◌, ℕ, Bool, true, false, ◌||◌, ◌&&◌, if◌then◌else◌, List, [], ◌∷◌, map, None, String}
use Rattle.std.specs.Prelude.{string_bytes, codes}
use Rattle.std.specs.Str.{bytes_eq}
use Rattle.std.specs.Ordering.{nat_cmp}
use Rattle.std.specs.declared.cmp.Ordering.TheVariants.{Less}
use Rattle.std.specs.Cmp.Lexicographic.{slice_cmp}
use Rattle.std.specs.declared.alloc.Global.{Global}
use Rattle.serde_json.specs.Data.{Data, null, Members, no_members, member, put}
use Rattle.serde_json.specs.Find.{get}
use Rattle.zarrs_metadata_parts.specs.AdditionalField.{AdditionalField, additional_field_seen, additional_field_of}
use Rattle.zarrs_metadata_parts.specs.AdditionalField.{additional_field_data, normal_field}
use Rattle.zarrs_metadata_parts.specs.declared.v3.additional_field.AdditionalFieldV3.{AdditionalFieldV3}
use Rattle.zarrs_metadata_parts.specs.declared.v3.additional_fields.NodeKind.{NodeKind}
use Rattle.zarrs_metadata_parts.specs.declared.v3.additional_fields.NodeKind.TheVariants.{Array, Group}

-- a map of additional fields without where it lies in memory, in the order of its keys
abbrev pub additional_fields_seen : List (String Global × AdditionalFieldV3)
    → List (List ℕ × AdditionalField)
additional_fields_seen es = map (λ e. (string_bytes e.0, additional_field_seen e.1)) es

unfoldable pub is_array_key : List ℕ → Bool
is_array_key key =
    bytes_eq key (codes "zarr_format") || bytes_eq key (codes "node_type")
    || bytes_eq key (codes "shape")
    || bytes_eq key (codes "data_type") || bytes_eq key (codes "chunk_grid")
    || bytes_eq key (codes "chunk_key_encoding") || bytes_eq key (codes "fill_value")
    || bytes_eq key (codes "codecs")
    || bytes_eq key (codes "attributes") || bytes_eq key (codes "storage_transformers")
    || bytes_eq key (codes "dimension_names")

unfoldable pub is_group_key : List ℕ → Bool
is_group_key key = bytes_eq key (codes "zarr_format") || bytes_eq key (codes "node_type")
    || bytes_eq key (codes "attributes")

-- the keys that the document of an array, or of a group, names
abbrev pub is_named_key : NodeKind → List ℕ → Bool
is_named_key Array key = is_array_key key
is_named_key Group key = is_group_key key

abbrev pub is_null : Data → Bool
is_null null = true
is_null _ = false

-- A null under `consolidated_metadata` stands for nothing in a group.
abbrev pub is_field_dropped : NodeKind → List ℕ → Data → Bool
is_field_dropped Array key d = false
is_field_dropped Group key d = bytes_eq key (codes "consolidated_metadata") && is_null d

abbrev pub is_no_field : NodeKind → List ℕ → Data → Bool
is_no_field kind key d = is_named_key kind key || is_field_dropped kind key d

-- every other key is an additional field
abbrev pub additional_fields_of : NodeKind → Members → List (List ℕ × AdditionalField)
additional_fields_of kind no_members = []
additional_fields_of kind (member key value ms) =
    if is_no_field kind key value then additional_fields_of kind ms
    else (key, additional_field_of value) ∷ additional_fields_of kind ms

-- Each is written under its key, but for those under a named key.
abbrev pub put_field : Bool → List ℕ → AdditionalField → Members → Members
put_field true key field ms = ms
put_field false key field ms = put key (additional_field_data field) ms

abbrev pub put_fields : NodeKind → List (List ℕ × AdditionalField) → Members → Members
put_fields kind [] ms = ms
put_fields kind (f ∷ fs) ms = put_fields kind fs (put_field (is_named_key kind f.0) f.0 f.1 ms)

-- what additional fields read back as, once they are written
abbrev pub normal_fields : NodeKind → List (List ℕ × AdditionalField)
    → List (List ℕ × AdditionalField)
normal_fields kind fs = additional_fields_of kind (put_fields kind fs no_members)

-- a key comes before those of the fields
abbrev pub IsKeyBelow : List ℕ → List (List ℕ × AdditionalField) → Type 0
IsKeyBelow key [] = Unit {0}
IsKeyBelow key (f ∷ fs) = (slice_cmp nat_cmp key f.0 ≡ Less) × IsKeyBelow key fs

-- Fields as a document that was read has them: their keys rise, the document names and drops none
-- of them, and none has a
-- `must_understand` of its own.
abbrev pub AreOrderly : NodeKind → List (List ℕ × AdditionalField) → Type 0
AreOrderly kind [] = Unit {0}
AreOrderly kind (f ∷ fs) =
    (is_no_field kind f.0 (additional_field_data f.1) ≡ false)
    × (get (codes "must_understand") f.1.value ≡ None)
    × IsKeyBelow f.0 fs
    × AreOrderly kind fs

-- each field in its own normal form
abbrev pub normal_each : List (List ℕ × AdditionalField) → List (List ℕ × AdditionalField)
normal_each fs = map (λ f. (f.0, normal_field f.1)) fs
