-- A version 3 array document: what it says, how it is read and how it is written.
use Rattle.std.specs.Prelude.{◌≡◌, ℕ, true, List, [], map, Option, Some, None, option_map, codes}
use Rattle.serde_json.specs.Data.{Data, string, object, Members, no_members, member, put}
use Rattle.serde_json.specs.Find.{get_member, as_object}
use Rattle.serde_json.specs.View.{items_of, members_view}
use Rattle.zarrs_metadata_values.specs.Reading.{◌>>=◌, read_under, whole_numbers, object_or_empty}
use Rattle.zarrs_metadata_values.specs.Writing.{list_data, put_object, put_list}
use Rattle.zarrs_metadata_parts.specs.MetadataV3.{Extension, extension_of, extensions_of, extension_seen}
use Rattle.zarrs_metadata_parts.specs.MetadataV3.{extensions_seen, extension_data, normal_form}
use Rattle.zarrs_metadata_parts.specs.AdditionalField.{AdditionalField}
use Rattle.zarrs_metadata_parts.specs.DimensionNames.{dimension_names_seen, dimension_names, dimension_names_data}
use Rattle.zarrs_metadata_parts.specs.Fields.{is_kind, put_array}
use Rattle.zarrs_metadata_values.specs.FillValueMetadata.{fill_view}
use Rattle.zarrs_metadata_parts.specs.AdditionalFields.{additional_fields_seen, additional_fields_of, put_fields}
use Rattle.zarrs_metadata_parts.specs.AdditionalFields.{normal_fields}
use Rattle.zarrs_metadata_parts.specs.declared.v3.additional_fields.NodeKind.TheVariants.{Array}
use Rattle.zarrs_metadata.specs.declared.v3.array.ArrayMetadataV3.{ArrayMetadataV3}
use Rattle.zarrs_metadata.specs.declared.v3.named_parts.NamedParts.{NamedParts}
use Rattle.zarrs_metadata.specs.declared.v3.optional_parts.OptionalParts.{OptionalParts}

pub record ArrayFields : Type 0 where
  pub shape : List ℕ
  pub data_type : Extension
  pub chunk_grid : Extension
  pub chunk_key_encoding : Extension
  pub fill_value : Data
  pub codecs : List Extension
  pub attributes : Members
  pub storage_transformers : List Extension
  pub dimension_names : Option (List (Option (List ℕ)))
  pub additional_fields : List (List ℕ × AdditionalField)

-- what an array has that is one extension each
pub record NamedFields : Type 0 where
  pub data_type : Extension
  pub chunk_grid : Extension
  pub chunk_key_encoding : Extension

abbrev pub named_seen : NamedParts → NamedFields
named_seen n = record {
  data_type = extension_seen n.data_type;
  chunk_grid = extension_seen n.chunk_grid;
  chunk_key_encoding = extension_seen n.chunk_key_encoding;
}

-- what a document may leave out
pub record OptionalFields : Type 0 where
  pub attributes : Members
  pub storage_transformers : List Extension
  pub dimension_names : Option (List (Option (List ℕ)))
  pub additional_fields : List (List ℕ × AdditionalField)

abbrev pub optional_seen : OptionalParts → OptionalFields
optional_seen o = record {
  attributes = members_view o.attributes.entries;
  storage_transformers = extensions_seen o.storage_transformers.items;
  dimension_names = option_map (λ v. dimension_names_seen v.items) o.dimension_names;
  additional_fields = additional_fields_seen o.additional_fields.entries;
}

abbrev pub array_seen : ArrayMetadataV3 → ArrayFields
array_seen a = record {
  shape = a.shape.items;
  data_type = extension_seen a.data_type;
  chunk_grid = extension_seen a.chunk_grid;
  chunk_key_encoding = extension_seen a.chunk_key_encoding;
  fill_value = fill_view a.fill_value;
  codecs = extensions_seen a.codecs.items;
  attributes = members_view a.attributes.entries;
  storage_transformers = extensions_seen a.storage_transformers.items;
  dimension_names = option_map (λ v. dimension_names_seen v.items) a.dimension_names;
  additional_fields = additional_fields_seen a.additional_fields.entries;
}

-- the keys that a new array has: `default` with a slash
abbrev pub default_keys : Extension
default_keys = record {
  name = codes "default";
  configuration = Some (member (codes "separator") (string (codes "/")) no_members);
  must_understand = true;
}

-- a list of extensions, or none where there is no value
unfoldable pub extensions_or_none : Option Data → Option (List Extension)
extensions_or_none None = Some []
extensions_or_none (Some d) = extensions_of d

-- the three that are one extension each
unfoldable pub named_fields : Members → Option NamedFields
named_fields ms = do
  data_type ← read_under (codes "data_type") extension_of ms
  chunk_grid ← read_under (codes "chunk_grid") extension_of ms
  chunk_key_encoding ← read_under (codes "chunk_key_encoding") extension_of ms
  Some (record {
    data_type = data_type;
    chunk_grid = chunk_grid;
    chunk_key_encoding = chunk_key_encoding;
  })

-- the fields that must be there, with the others empty
unfoldable pub required_fields : Members → Option ArrayFields
required_fields ms = do
  shape ← read_under (codes "shape") whole_numbers ms
  named ← named_fields ms
  fill_value ← get_member (codes "fill_value") ms
  codecs ← read_under (codes "codecs") extensions_of ms
  Some (record {
    shape = shape;
    data_type = named.data_type;
    chunk_grid = named.chunk_grid;
    chunk_key_encoding = named.chunk_key_encoding;
    fill_value = fill_value;
    codecs = codecs;
    attributes = no_members;
    storage_transformers = [];
    dimension_names = None;
    additional_fields = [];
  })

-- the fields that may be there
unfoldable pub optional_fields : Members → Option OptionalFields
optional_fields ms = do
  attributes ← object_or_empty (get_member (codes "attributes") ms)
  storage_transformers ← extensions_or_none (get_member (codes "storage_transformers") ms)
  names ← dimension_names (get_member (codes "dimension_names") ms)
  Some (record {
    attributes = attributes;
    storage_transformers = storage_transformers;
    dimension_names = names;
    additional_fields = additional_fields_of Array ms;
  })

-- an array with other such fields
abbrev pub with_optional : ArrayFields → OptionalFields → ArrayFields
with_optional f o = record f {
  attributes = o.attributes;
  storage_transformers = o.storage_transformers;
  dimension_names = o.dimension_names;
  additional_fields = o.additional_fields;
}

-- `zarr_format` is 3 and `node_type` is `array`.
unfoldable pub array_members : Members → Option ArrayFields
array_members ms = do
  _ ← is_kind 3 (codes "array") ms
  fields ← required_fields ms
  optional ← optional_fields ms
  Some (with_optional fields optional)

abbrev pub array_fields_of : Data → Option ArrayFields
array_fields_of d = as_object d >>= array_members

-- only where it is a list
abbrev pub put_names : Option (List (Option (List ℕ))) → Members → Members
put_names None ms = ms
put_names (Some names) ms = put (codes "dimension_names") (dimension_names_data names) ms

unfoldable pub optional_data : ArrayFields → Members → Members
optional_data f ms =
    put_object (codes "attributes") f.attributes
    (put_list (codes "storage_transformers") (items_of (map extension_data f.storage_transformers))
    (put_names f.dimension_names ms))

unfoldable pub required_data : ArrayFields → Members → Members
required_data f ms =
    put_array 3 f.shape f.fill_value
    (put (codes "data_type") (extension_data f.data_type)
    (put (codes "chunk_grid") (extension_data f.chunk_grid)
    (put (codes "chunk_key_encoding") (extension_data f.chunk_key_encoding)
    (put (codes "codecs") (list_data extension_data f.codecs) ms))))

abbrev pub array_data : ArrayFields → Data
array_data f =
    object (required_data f (optional_data f (put_fields Array f.additional_fields no_members)))

-- What a document reads back as, once it is written: with each extension and each additional field
-- in its normal form.
abbrev pub normal_array : ArrayFields → ArrayFields
normal_array f = record f {
  data_type = normal_form f.data_type;
  chunk_grid = normal_form f.chunk_grid;
  chunk_key_encoding = normal_form f.chunk_key_encoding;
  codecs = map normal_form f.codecs;
  storage_transformers = map normal_form f.storage_transformers;
  additional_fields = normal_fields Array f.additional_fields;
}

-- the fields that must be there, with the others empty
abbrev pub required_part : ArrayFields → ArrayFields
required_part f = record f {
  attributes = no_members;
  storage_transformers = [];
  dimension_names = None;
  additional_fields = [];
}

-- the fields that may be left out
abbrev pub optional_part : ArrayFields → OptionalFields
optional_part f = record {
  attributes = f.attributes;
  storage_transformers = f.storage_transformers;
  dimension_names = f.dimension_names;
  additional_fields = f.additional_fields;
}

-- Its additional fields stay as they are when it is written and read again.
abbrev pub KeepsFields : ArrayFields → Type 0
KeepsFields f = normal_fields Array f.additional_fields ≡ f.additional_fields
