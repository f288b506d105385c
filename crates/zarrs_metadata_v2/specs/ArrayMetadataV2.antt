-- A version 2 array document: what it says, how it is read and how it is written.
use Rattle.std.specs.Prelude.{◌≡◌, ℕ, nat_le, true, if◌then◌else◌, List, map, Option, Some, None, option_map}
use Rattle.std.specs.Prelude.{codes}
use Rattle.std.specs.Str.{bytes_eq}
use Rattle.std.specs.List.{list_all}
use Rattle.std.specs.Int.NonZero.{non_zero_u64_get}
use Rattle.serde_json.specs.Data.{Data, string, object, Members, no_members, put}
use Rattle.serde_json.specs.Find.{get_member, as_str, as_object}
use Rattle.serde_json.specs.View.{members_view}
use Rattle.zarrs_metadata_values.specs.Reading.{◌>>=◌, list_by, read_under, positive_number, whole_numbers, is_number, object_or_empty}
use Rattle.zarrs_metadata_values.specs.Writing.{numbers_data, put_object}
use Rattle.zarrs_metadata_values.specs.FillValueMetadata.{fill_view}
use Rattle.zarrs_metadata_parts.specs.MetadataV2.{CodecV2, codec_v2_seen}
use Rattle.zarrs_metadata_parts.specs.DataTypeV2.{DataTypeV2, data_type_v2_seen, data_type_v2_of, data_type_v2_data}
use Rattle.zarrs_metadata_parts.specs.Fields.{put_array}
use Rattle.zarrs_metadata_parts.specs.Names.{separator_text}
use Rattle.zarrs_metadata_parts.specs.declared.array.chunk_key_separator.ChunkKeySeparator.{ChunkKeySeparator}
use Rattle.zarrs_metadata_parts.specs.declared.array.chunk_key_separator.ChunkKeySeparator.TheVariants.{Slash, Dot}
use Rattle.zarrs_metadata_v2.specs.CodecsV2.{codecs_v2_seen, compressor_of, filters_of, compressor_data, filters_data}
use Rattle.zarrs_metadata_v2.specs.CodecsV2.{normal_compressor, normal_filters}
use Rattle.zarrs_metadata_v2.specs.declared.array.ArrayMetadataV2.{ArrayMetadataV2}
use Rattle.zarrs_metadata_v2.specs.declared.array.order.ArrayMetadataV2Order.{ArrayMetadataV2Order}
use Rattle.zarrs_metadata_v2.specs.declared.array.order.ArrayMetadataV2Order.TheVariants.{C, F}
use Rattle.zarrs_metadata_v2.specs.declared.array.optional_parts.OptionalPartsV2.{OptionalPartsV2}

pub record ArrayV2 : Type 0 where
  pub shape : List ℕ
  pub chunks : List ℕ
  pub dtype : DataTypeV2
  pub compressor : Option CodecV2
  pub fill_value : Data
  pub order : ArrayMetadataV2Order
  pub filters : Option (List CodecV2)
  pub dimension_separator : ChunkKeySeparator
  pub attributes : Members

-- what a document may leave out
pub record OptionalV2 : Type 0 where
  pub compressor : Option CodecV2
  pub filters : Option (List CodecV2)
  pub dimension_separator : ChunkKeySeparator
  pub attributes : Members

abbrev pub optional_v2_seen : OptionalPartsV2 → OptionalV2
optional_v2_seen o = record {
  compressor = option_map codec_v2_seen o.compressor;
  filters = option_map (λ v. codecs_v2_seen v.items) o.filters;
  dimension_separator = o.dimension_separator;
  attributes = members_view o.attributes.entries;
}

abbrev pub array_v2_seen : ArrayMetadataV2 → ArrayV2
array_v2_seen a = record {
  shape = a.shape.items;
  chunks = map non_zero_u64_get a.chunks.items;
  dtype = data_type_v2_seen a.dtype;
  compressor = option_map codec_v2_seen a.compressor;
  fill_value = fill_view a.fill_value;
  order = a.order;
  filters = option_map (λ v. codecs_v2_seen v.items) a.filters;
  dimension_separator = a.dimension_separator;
  attributes = members_view a.attributes.entries;
}

-- `C` or `F`
unfoldable pub array_order_of : List ℕ → Option ArrayMetadataV2Order
array_order_of s =
    if bytes_eq s (codes "C") then Some C
    else if bytes_eq s (codes "F") then Some F
    else None

unfoldable pub separator_of_text : List ℕ → Option ChunkKeySeparator
separator_of_text s =
    if bytes_eq s (codes ".") then Some Dot
    else if bytes_eq s (codes "/") then Some Slash
    else None

-- a dot where it is left out
abbrev pub dimension_separator_of : Option Data → Option ChunkKeySeparator
dimension_separator_of None = Some Dot
dimension_separator_of (Some d) = as_str d >>= separator_of_text

-- what a grammar reads of the text under a key that must be there
abbrev pub text_under : {Y : Type 0} → List ℕ → (List ℕ → Option Y) → Members → Option Y
text_under key grammar ms = get_member key ms >>= as_str >>= grammar

-- the fields that must be there, with the others as a new array has them
unfoldable pub required_v2 : Members → Option ArrayV2
required_v2 ms = do
  order ← text_under (codes "order") array_order_of ms
  shape ← read_under (codes "shape") whole_numbers ms
  chunks ← read_under (codes "chunks") (list_by positive_number) ms
  dtype ← read_under (codes "dtype") data_type_v2_of ms
  fill_value ← get_member (codes "fill_value") ms
  Some (record {
    shape = shape;
    chunks = chunks;
    dtype = dtype;
    compressor = None;
    fill_value = fill_value;
    order = order;
    filters = None;
    dimension_separator = Dot;
    attributes = no_members;
  })

-- the fields that may be there
unfoldable pub optional_v2 : Members → Option OptionalV2
optional_v2 ms = do
  dimension_separator ← dimension_separator_of (get_member (codes "dimension_separator") ms)
  compressor ← compressor_of (get_member (codes "compressor") ms)
  filters ← filters_of (get_member (codes "filters") ms)
  attributes ← object_or_empty (get_member (codes "attributes") ms)
  Some (record {
    compressor = compressor;
    filters = filters;
    dimension_separator = dimension_separator;
    attributes = attributes;
  })

-- an array with other such fields
abbrev pub with_optional_v2 : ArrayV2 → OptionalV2 → ArrayV2
with_optional_v2 f o = record f {
  compressor = o.compressor;
  filters = o.filters;
  dimension_separator = o.dimension_separator;
  attributes = o.attributes;
}

-- `zarr_format` is 2; keys that no field names are ignored.
unfoldable pub array_v2_members : Members → Option ArrayV2
array_v2_members ms = do
  _ ← get_member (codes "zarr_format") ms >>= is_number 2
  fields ← required_v2 ms
  optional ← optional_v2 ms
  Some (with_optional_v2 fields optional)

abbrev pub array_v2_of : Data → Option ArrayV2
array_v2_of d = as_object d >>= array_v2_members

abbrev pub order_text : ArrayMetadataV2Order → List ℕ
order_text C = codes "C"
order_text F = codes "F"

-- Written with `attributes` only where there are some, and with null for no compressor or filters.
unfoldable pub optional_data_v2 : ArrayV2 → Members → Members
optional_data_v2 f ms =
    put_object (codes "attributes") f.attributes
    (put (codes "compressor") (compressor_data f.compressor)
    (put (codes "filters") (filters_data f.filters)
    (put (codes "dimension_separator") (string (separator_text f.dimension_separator)) ms)))

unfoldable pub required_data_v2 : ArrayV2 → Members → Members
required_data_v2 f ms =
    put_array 2 f.shape f.fill_value
    (put (codes "chunks") (numbers_data f.chunks)
    (put (codes "dtype") (data_type_v2_data f.dtype)
    (put (codes "order") (string (order_text f.order)) ms)))

abbrev pub array_v2_data : ArrayV2 → Data
array_v2_data f = object (required_data_v2 f (optional_data_v2 f no_members))

-- What a document reads back as, once it is written: without an `id` in a configuration, and
-- without an empty list of filters.
abbrev pub normal_array_v2 : ArrayV2 → ArrayV2
normal_array_v2 f = record f {
  compressor = normal_compressor f.compressor;
  filters = normal_filters f.filters;
}

-- no length of a chunk is 0
abbrev pub HasChunks : ArrayV2 → Type 0
HasChunks f = list_all (λ n. nat_le 1 n) f.chunks ≡ true

-- the fields that must be there, with the others as a new array has them
abbrev pub required_part_v2 : ArrayV2 → ArrayV2
required_part_v2 f = record f {
  compressor = None;
  filters = None;
  dimension_separator = Dot;
  attributes = no_members;
}

-- the fields that may be left out
abbrev pub optional_part_v2 : ArrayV2 → OptionalV2
optional_part_v2 f = record {
  compressor = f.compressor;
  filters = f.filters;
  dimension_separator = f.dimension_separator;
  attributes = f.attributes;
}
