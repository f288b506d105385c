-- What a version 2 document says of the chunks in a store, and the document of version 3 that it is
-- translated to.
use Rattle.std.specs.Prelude.{◌≡◌, ◌≤◌, ◌↔◌, ◌⊎◌, ℕ, true, List, [], ◌∷◌, length, replicate, Option, Some, None, Ok}
use Rattle.std.specs.Prelude.{Err, MatchOption}
use Rattle.serde_json.specs.Data.{Data, null, depth}
use Rattle.serde_json.specs.Read.{read, max_depth}
use Rattle.zarr_model.specs.Prelude.{Element, Array, Content, Options, Means, layout, v2_keys}
use Rattle.zarr_model.specs.declared.endianness.Endianness.{Endianness}
use Rattle.zarrs_metadata_parts.specs.Names.{separator_code}
use Rattle.zarrs_metadata_values.specs.Reading.{from_json}
use Rattle.zarrs_metadata.specs.ArrayMetadata.{ArrayFields, array_data}
use Rattle.zarrs_metadata_v2.specs.ArrayMetadataV2.{ArrayV2, HasChunks, array_v2_of}
use Rattle.zarrs_metadata_v2.specs.declared.array.order.ArrayMetadataV2Order.{ArrayMetadataV2Order}
use Rattle.zarrs_metadata_v2.specs.declared.array.order.ArrayMetadataV2Order.TheVariants.{C, F}
use Rattle.zarrs_data_type.specs.FillMetadata.{fill_of}
use Rattle.zarr_codecs_to_bytes.specs.BytesCodec.{stored_order}
use Rattle.zarr_codecs.specs.Plain.{plain_bytes}
use Rattle.zarr_basics.specs.kinds.array_to_array.ArrayToArray.{ArrayToArray, transpose}
use Rattle.zarr_basics.specs.GridForms.{regular}
use Rattle.zarr_basics.specs.GridConfigurations.{are_chunk_lengths}
use Rattle.zarr_basics.specs.Registries.{KnownNames, builtin_names}
use Rattle.zarr_array_open.specs.Document.{ChainForm, ArrayDocument, describe, fill_in}
use Rattle.zarr_array_open.specs.Opening.{document_of, served_document, chunk_too_large, open_answer, open_document}
use Rattle.zarr_v2.specs.declared.element_type.ElementType.{ElementType}
use Rattle.zarr_v2.specs.declared.element_type.ElementType.TheVariants.{Bool as BoolType, Int8, Int16, Int32, Int64}
use Rattle.zarr_v2.specs.declared.element_type.ElementType.TheVariants.{UInt8, UInt16, UInt32, UInt64}
use Rattle.zarr_v2.specs.declared.element_type.StoredType.{StoredType}
use Rattle.zarr_v2.specs.ElementType.{element_type, stored_type_of}
use Rattle.zarr_v2.specs.Translate.{fields_v2, reversed_order, translated}
use Rattle.zarr_v2.specs.ChunksV2.{ChunksV2, layout_v2}
use Rattle.zarr_v2.specs.Alike.{DecodeAlike}

-- how many bytes an element has
abbrev pub element_size : ElementType → ℕ
element_size BoolType = 1
element_size Int8 = 1
element_size Int16 = 2
element_size Int32 = 4
element_size Int64 = 8
element_size UInt8 = 1
element_size UInt16 = 2
element_size UInt32 = 4
element_size UInt64 = 8

-- the bytes of a fill value, the lowest first: null is zero bytes
abbrev pub fill_bytes_v2 : ElementType → Data → Option (List ℕ)
fill_bytes_v2 element null = Some (replicate (element_size element) 0)
fill_bytes_v2 element fill = fill_of (element_type element) fill

-- the chunks of elements of this type
abbrev pub chunks_with : ArrayV2 → StoredType → List ℕ → ChunksV2
chunks_with a stored filler = record {
  shape = a.shape;
  chunks = a.chunks;
  size = element_size stored.element;
  bytes = stored_order stored.order;
  fill = fill_in (element_type stored.element) filler;
  order = a.order;
  separator = separator_code a.dimension_separator;
}

abbrev pub chunks_filled : ArrayV2 → StoredType → Option (List ℕ) → Option ChunksV2
chunks_filled a stored None = None
chunks_filled a stored (Some filler) = Some (chunks_with a stored filler)

abbrev pub chunks_typed : ArrayV2 → Option StoredType → Option ChunksV2
chunks_typed a None = None
chunks_typed a (Some stored) =
    chunks_filled a stored (fill_bytes_v2 stored.element a.fill_value)

-- the chunks of a document's array, if its type and its fill value are known
abbrev pub chunks_of : ArrayV2 → Option ChunksV2
chunks_of a = chunks_typed a (stored_type_of a.dtype)

-- the codecs of an order: those of column-major order turn the dimensions round
abbrev pub turning : ArrayMetadataV2Order → ℕ → List ArrayToArray
turning C rank = []
turning F rank = transpose (reversed_order rank) ∷ []

abbrev pub chain_v2 : ArrayMetadataV2Order → ℕ → Option Endianness → ChainForm
chain_v2 order rank bytes = record {
  array_codecs = turning order rank;
  to_bytes = plain_bytes bytes;
  byte_codecs = [];
}

-- a translated document is described by its parts, up to what its chunks need
abbrev pub IsDescribed : Type 0
IsDescribed = (a : ArrayV2) (stored : StoredType) (fill : Data) (filler : List ℕ) →
    are_chunk_lengths a.shape a.chunks ≡ true →
    fill_of (element_type stored.element) fill ≡ Some filler →
    document_of builtin_names (fields_v2 a stored fill)
    ≡ served_document (v2_keys (separator_code a.dimension_separator))
    (chain_v2 a.order (length a.shape) stored.order) (element_type stored.element) a.shape
    (regular a.chunks) filler

-- nothing but chunks that are too large keeps it from being opened
abbrev pub OnlyChunksRefuse : Type 0
OnlyChunksRefuse = (a : ArrayV2) (f : ArrayFields) → HasChunks a → translated a ≡ Ok f →
    ((d : ArrayDocument) × (document_of builtin_names f ≡ Ok d))
    ⊎ (document_of builtin_names f ≡ Err chunk_too_large)

-- the chunks of a version 2 document, which there are, lie as those of a document of version 3,
-- under any options
abbrev pub LieAlike : Option ChunksV2 → ArrayDocument → Type 0
LieAlike chunks d = MatchOption chunks ⊥ (λ chunks. (options : Options) →
    DecodeAlike (layout_v2 chunks) (layout (describe d) options))

-- and so they do by the one that it is translated to, where that is opened
abbrev pub TranslationLiesAlike : Type 0
TranslationLiesAlike = (a : ArrayV2) (f : ArrayFields) (d : ArrayDocument) →
    translated a ≡ Ok f → document_of builtin_names f ≡ Ok d → LieAlike (chunks_of a) d

-- a store means the same arrays by the chunks of a version 2 document, which there are, as by a
-- document of version 3
abbrev pub MeansTheSame : Option ChunksV2 → ArrayDocument → Type 0
MeansTheSame chunks d = MatchOption chunks ⊥ (λ chunks. (options : Options) (store : Content)
    (array : Array Element) → Means (layout_v2 chunks) store array
    ↔ Means (layout (describe d) options) store array)

-- and so it does by the one that it is translated to, where that is opened
abbrev pub TranslationMeansTheSame : Type 0
TranslationMeansTheSame = (a : ArrayV2) (f : ArrayFields) (d : ArrayDocument) →
    translated a ≡ Ok f → document_of builtin_names f ≡ Ok d → MeansTheSame (chunks_of a) d

-- a document nests no deeper than a text may, and each text of it is opened as its fields are
pub record OpensAsText (names : KnownNames) (f : ArrayFields) : Type 0 where
  pub nests : depth (array_data f) ≤ max_depth
  pub opens : (written : List ℕ) → read written ≡ Some (array_data f) →
      open_document names written ≡ open_answer (document_of names f)

-- and so it is of the translation of a version 2 document that was read of a text
abbrev pub TranslationOpensAsText : Type 0
TranslationOpensAsText = (names : KnownNames) (text : List ℕ) (a : ArrayV2) (f : ArrayFields) →
    from_json array_v2_of (read text) ≡ Ok a → translated a ≡ Ok f → OpensAsText names f
