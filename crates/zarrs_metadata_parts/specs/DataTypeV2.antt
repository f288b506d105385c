-- The data type of a version 2 array.
use Rattle.std.specs.Prelude.{ℕ, List, map, Option, Some, None, option_map, string_bytes}
use Rattle.serde_json.specs.Data.{Data, string, array, Items, no_items, item}
use Rattle.serde_json.specs.Find.{as_str, as_array}
use Rattle.serde_json.specs.View.{items_of}
use Rattle.zarrs_metadata_values.specs.Reading.{◌>>=◌, each, list_by, null_or, whole_number}
use Rattle.zarrs_metadata_values.specs.Writing.{numbers_data}
use Rattle.zarrs_metadata_parts.specs.declared.data_type_v2.DataTypeMetadataV2.{DataTypeMetadataV2}
use Rattle.zarrs_metadata_parts.specs.declared.data_type_v2.DataTypeMetadataV2.TheVariants.{Simple, Structured}
use Rattle.zarrs_metadata_parts.specs.declared.data_type_v2.DataTypeMetadataV2Structured.{DataTypeMetadataV2Structured}

pub record FieldV2 : Type 0 where
  pub fieldname : List ℕ
  pub datatype : List ℕ
  pub shape : Option (List ℕ)

-- a text, or a list of fields
pub data DataTypeV2 : Type 0 where
  simple : List ℕ → DataTypeV2
  structured : List FieldV2 → DataTypeV2

abbrev pub field_v2_seen : DataTypeMetadataV2Structured → FieldV2
field_v2_seen f = record {
  fieldname = string_bytes f.fieldname;
  datatype = string_bytes f.datatype;
  shape = option_map (λ v. v.items) f.shape;
}

abbrev pub data_type_v2_seen : DataTypeMetadataV2 → DataTypeV2
data_type_v2_seen (Simple s) = simple (string_bytes s)
data_type_v2_seen (Structured fs) = structured (map field_v2_seen fs.items)

-- null, or a list of whole numbers
abbrev pub optional_numbers : Data → Option (Option (List ℕ))
optional_numbers = null_or (list_by whole_number)

-- nothing more, or the shape alone
abbrev pub last_shape : Items → Option (Option (List ℕ))
last_shape no_items = Some None
last_shape (item d no_items) = optional_numbers d
last_shape (item d (item e ds)) = None

-- two texts, and optionally the shape
unfoldable pub named_field : Data → Data → Items → Option FieldV2
named_field a b rest = do
  fieldname ← as_str a
  datatype ← as_str b
  shape ← last_shape rest
  Some (record { fieldname = fieldname; datatype = datatype; shape = shape })

abbrev pub field_items : Items → Option FieldV2
field_items no_items = None
field_items (item a no_items) = None
field_items (item a (item b rest)) = named_field a b rest

unfoldable pub field_v2_of : Data → Option FieldV2
field_v2_of d = as_array d >>= field_items

unfoldable pub data_type_v2_of : Data → Option DataTypeV2
data_type_v2_of (string s) = Some (simple s)
data_type_v2_of (array ds) = each field_v2_of ds >>= λ fs. Some (structured fs)
data_type_v2_of _ = None

-- Written as the text, or as a list of lists of two, or of three with the shape.
abbrev pub shape_items : Option (List ℕ) → Items
shape_items None = no_items
shape_items (Some ns) = item (numbers_data ns) no_items

abbrev pub field_v2_data : FieldV2 → Data
field_v2_data f = array (item (string f.fieldname) (item (string f.datatype) (shape_items f.shape)))

abbrev pub data_type_v2_data : DataTypeV2 → Data
data_type_v2_data (simple s) = string s
data_type_v2_data (structured fs) = array (items_of (map field_v2_data fs))
