-- The document of version 3 that a version 2 array document is translated to.
use Rattle.std.specs.Prelude.{◌≡◌, ℕ, zero, suc, ◌==◌, ◌||◌, Bool, true, false, if◌then◌else◌, is_some, List, [], ◌∷◌}
use Rattle.std.specs.Prelude.{length, Option, Some, None, Result, Ok, Err, codes}
use Rattle.serde_json.specs.Data.{unsigned, Data, null, boolean, number, string, no_members, member}
use Rattle.zarrs_metadata_values.specs.Writing.{numbers_data}
use Rattle.zarrs_metadata_parts.specs.MetadataV2.{CodecV2}
use Rattle.zarrs_metadata_parts.specs.MetadataV3.{Extension}
use Rattle.zarrs_metadata_parts.specs.Names.{separator_text}
use Rattle.zarrs_metadata_parts.specs.declared.array.chunk_key_separator.ChunkKeySeparator.{ChunkKeySeparator}
use Rattle.zarr_model.specs.declared.endianness.Endianness.{Endianness}
use Rattle.zarr_model.specs.declared.endianness.Endianness.TheVariants.{Little, Big}
use Rattle.zarrs_metadata.specs.ArrayMetadata.{ArrayFields}
use Rattle.zarrs_metadata_v2.specs.ArrayMetadataV2.{ArrayV2}
use Rattle.zarrs_metadata_v2.specs.declared.array.order.ArrayMetadataV2Order.{ArrayMetadataV2Order}
use Rattle.zarrs_metadata_v2.specs.declared.array.order.ArrayMetadataV2Order.TheVariants.{C, F}
use Rattle.zarrs_data_type.specs.FillMetadata.{fill_of}
use Rattle.zarr_v2.specs.declared.translation_error.V2Error.{V2Error}
use Rattle.zarr_v2.specs.declared.translation_error.V2Error.TheVariants.{RankMismatch, UnsupportedDataType}
use Rattle.zarr_v2.specs.declared.translation_error.V2Error.TheVariants.{UnsupportedFillValue, UnsupportedCodec}
use Rattle.zarr_v2.specs.declared.translation_error.V2Error.TheVariants.{OutOfMemory}
use Rattle.zarr_v2.specs.declared.element_type.ElementType.{ElementType}
use Rattle.zarr_v2.specs.declared.element_type.ElementType.TheVariants.{Bool as BoolType}
use Rattle.zarr_v2.specs.declared.element_type.StoredType.{StoredType}
use Rattle.zarr_v2.specs.ElementType.{element_type, type_text, stored_type_of}

-- an extension of a name alone, and one with one member in its configuration
abbrev pub extension_named : List ℕ → Extension
extension_named name = record { name = name; configuration = None; must_understand = true }

abbrev pub configured_by : List ℕ → List ℕ → Data → Extension
configured_by name key value = record {
  name = name;
  configuration = Some (member key value no_members);
  must_understand = true;
}

-- the numbers below one, the last one first
abbrev pub reversed_order : ℕ → List ℕ
reversed_order zero = []
reversed_order (suc n) = n ∷ reversed_order n

abbrev pub endian_text : Endianness → List ℕ
endian_text Little = codes "little"
endian_text Big = codes "big"

-- the regular grid of chunks, and the keys of version 2 with a separator
abbrev pub grid_v2 : List ℕ → Extension
grid_v2 chunks = configured_by (codes "regular") (codes "chunk_shape") (numbers_data chunks)

abbrev pub keys_v2 : ChunkKeySeparator → Extension
keys_v2 separator =
    configured_by (codes "v2") (codes "separator") (string (separator_text separator))

-- the codec of elements as bytes, and the one that turns the order of dimensions round
abbrev pub bytes_v2 : Option Endianness → Extension
bytes_v2 None = extension_named (codes "bytes")
bytes_v2 (Some order) =
    configured_by (codes "bytes") (codes "endian") (string (endian_text order))

abbrev pub transpose_v2 : ℕ → Extension
transpose_v2 rank =
    configured_by (codes "transpose") (codes "order") (numbers_data (reversed_order rank))

-- elements lie in row-major order, or in column-major order
abbrev pub codecs_v2 : ArrayMetadataV2Order → ℕ → Option Endianness → List Extension
codecs_v2 C rank order = bytes_v2 order ∷ []
codecs_v2 F rank order = transpose_v2 rank ∷ (bytes_v2 order ∷ [])

-- the fill value of zero bytes
abbrev pub zero_fill : ElementType → Data
zero_fill BoolType = boolean false
zero_fill _ = number (unsigned 0)

-- null is zero bytes, and any other value has to be one of the type
abbrev pub if_denotes : Option (List ℕ) → Data → Option Data
if_denotes None fill = None
if_denotes (Some bytes) fill = Some fill

abbrev pub fill_v2 : ElementType → Data → Option Data
fill_v2 element null = Some (zero_fill element)
fill_v2 element fill = if_denotes (fill_of (element_type element) fill) fill

-- whether there is a compressor or a filter
abbrev pub has_filter : Option (List CodecV2) → Bool
has_filter None = false
has_filter (Some []) = false
has_filter (Some (codec ∷ codecs)) = true

abbrev pub has_codec : ArrayV2 → Bool
has_codec a = is_some a.compressor || has_filter a.filters

-- the document of version 3 with elements of this type and this fill value
abbrev pub fields_v2 : ArrayV2 → StoredType → Data → ArrayFields
fields_v2 a stored fill = record {
  shape = a.shape;
  data_type = extension_named (type_text stored.element);
  chunk_grid = grid_v2 a.chunks;
  chunk_key_encoding = keys_v2 a.dimension_separator;
  fill_value = fill;
  codecs = codecs_v2 a.order (length a.shape) stored.order;
  attributes = a.attributes;
  storage_transformers = [];
  dimension_names = None;
  additional_fields = [];
}

-- the document, or why there is none, the first reason in this order
abbrev pub filled_v2 : ArrayV2 → StoredType → Option Data → Result ArrayFields V2Error
filled_v2 a stored None = Err UnsupportedFillValue
filled_v2 a stored (Some fill) =
    if has_codec a then Err UnsupportedCodec else Ok (fields_v2 a stored fill)

abbrev pub typed_v2 : ArrayV2 → Option StoredType → Result ArrayFields V2Error
typed_v2 a None = Err UnsupportedDataType
typed_v2 a (Some stored) = filled_v2 a stored (fill_v2 stored.element a.fill_value)

abbrev pub translated : ArrayV2 → Result ArrayFields V2Error
translated a = if length a.chunks == length a.shape then typed_v2 a (stored_type_of a.dtype)
    else Err RankMismatch

-- the error is that reason, or tells of memory
abbrev pub IsTold : Result ArrayFields V2Error → V2Error → Type 0
IsTold answer RankMismatch = answer ≡ Err RankMismatch
IsTold answer UnsupportedDataType = answer ≡ Err UnsupportedDataType
IsTold answer UnsupportedFillValue = answer ≡ Err UnsupportedFillValue
IsTold answer UnsupportedCodec = answer ≡ Err UnsupportedCodec
IsTold answer OutOfMemory = Unit {0}
IsTold answer _ = ⊥
