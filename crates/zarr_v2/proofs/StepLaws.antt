-- The steps of opening a translated document.
use Rattle.std.proofs.Common.{◌≡◌, ◌∙◌, ap, refl, ℕ, true, false, List, [], ◌∷◌, length, Option, Some, None, option_map}
use Rattle.std.proofs.Common.{Ok, Err, Result}
use Rattle.std.specs.Prelude.{◌==◌}
use Rattle.std.proofs.lemmas.Bool.{cond-true, cond-false, eq-eqb}
use Rattle.serde_json.specs.Data.{Data}
use Rattle.zarr_model.specs.Prelude.{v2_keys}
use Rattle.zarr_model.specs.declared.endianness.Endianness.{Endianness}
use Rattle.zarr_model.specs.declared.endianness.Endianness.TheVariants.{Little, Big}
use Rattle.zarrs_metadata_values.specs.Reading.{◌>>=◌}
use Rattle.zarrs_metadata_values.proofs.NumberLists.{whole_numbers_read_back}
use Rattle.zarrs_metadata_parts.specs.Making.{or_config}
use Rattle.zarrs_metadata_parts.specs.Names.{separator_code}
use Rattle.zarrs_metadata_parts.specs.declared.array.chunk_key_separator.ChunkKeySeparator.{ChunkKeySeparator}
use Rattle.zarrs_metadata_parts.specs.declared.array.chunk_key_separator.ChunkKeySeparator.TheVariants.{Slash, Dot}
use Rattle.zarrs_metadata_v2.specs.ArrayMetadataV2.{ArrayV2}
use Rattle.zarrs_metadata_v2.specs.declared.array.order.ArrayMetadataV2Order.{ArrayMetadataV2Order}
use Rattle.zarrs_metadata_v2.specs.declared.array.order.ArrayMetadataV2Order.TheVariants.{C, F}
use Rattle.zarrs_data_type.specs.FillMetadata.{fill_of}
use Rattle.zarr_codecs.specs.Plain.{plain_bytes}
use Rattle.zarr_basics.specs.GridConfigurations.{are_chunk_lengths, if_chunk_lengths, chunk_shape_in}
use Rattle.zarr_basics.specs.GridConfigurations.{chunk_shape_members}
use Rattle.zarr_basics.specs.GridForms.{regular}
use Rattle.zarr_basics.proofs.ConfigurationLaws.{reads_back}
use Rattle.zarr_basics.specs.Configurations.{given_separator}
use Rattle.zarr_codecs_to_bytes.specs.BytesCodec.{given_order}
use Rattle.zarr_basics.specs.kinds.array_to_array.Configuration.{order_members, if_order, order_in}
use Rattle.zarr_codecs.specs.CodecForm.{CodecForm, array_codec, to_bytes}
use Rattle.zarr_basics.specs.kinds.array_to_array.ArrayToArray.{transpose}
use Rattle.zarr_basics.specs.Registries.{builtin_names}
use Rattle.zarr_codecs_elements.specs.Order.{is_order}
use Rattle.zarr_array_open.specs.Chain.{chain_in}
use Rattle.zarr_array_open.specs.Opening.{OpenRefusal, data_type_by, grid_by, keys_by, codec_by, codecs_by, if_ranked}
use Rattle.zarr_array_open.specs.Opening.{or_unmade, or_refused, plugin_create, document_of, served_document}
use Rattle.zarr_array_open.specs.Opening as opening
use Rattle.zarr_v2.specs.declared.element_type.ElementType.{ElementType}
use Rattle.zarr_v2.specs.declared.element_type.ElementType.TheVariants.{Bool as BoolType, Int8, Int16, Int32, Int64}
use Rattle.zarr_v2.specs.declared.element_type.ElementType.TheVariants.{UInt8, UInt16, UInt32, UInt64}
use Rattle.zarr_v2.specs.declared.element_type.StoredType.{StoredType}
use Rattle.zarr_v2.specs.ElementType.{element_type, type_text}
use Rattle.zarr_v2.specs.Translate.{extension_named, grid_v2, keys_v2, bytes_v2, transpose_v2, codecs_v2}
use Rattle.zarr_v2.specs.Translate.{reversed_order, fields_v2}
use Rattle.zarr_v2.specs.Documents.{chain_v2}
use Rattle.zarr_v2.proofs.OrderLaws.{reversed_length, reversed_is_order}

type_known : (e : ElementType) →
    data_type_by builtin_names.data_types (extension_named (type_text e)) ≡ Ok (element_type e)
type_known BoolType = refl
type_known Int8 = refl
type_known Int16 = refl
type_known Int32 = refl
type_known Int64 = refl
type_known UInt8 = refl
type_known UInt16 = refl
type_known UInt32 = refl
type_known UInt64 = refl

keys_known : (s : ChunkKeySeparator) → keys_by builtin_names.key_encodings (keys_v2 s) ≡ Ok (v2_keys (separator_code s))
unfolding given_separator
keys_known Slash = refl
keys_known Dot = refl

grid_known : (shape chunks : List ℕ) → are_chunk_lengths shape chunks ≡ true →
    grid_by builtin_names.grids shape (grid_v2 chunks) ≡ Ok (regular chunks)
grid_known shape chunks fits =
    ap (λ (o : Option (List ℕ)). or_refused plugin_create (option_map regular o)) (reads_back shape chunks fits)

-- no chunk shape is made of lengths that are none
not_read : (shape chunks : List ℕ) → are_chunk_lengths shape chunks ≡ false →
    chunk_shape_in shape (Some (chunk_shape_members chunks)) ≡ None
unfolding chunk_shape_in
not_read shape chunks e =
    ap (λ (read : Option (List ℕ)). read >>= if_chunk_lengths shape) (whole_numbers_read_back chunks)
    ∙ cond-false (are_chunk_lengths shape chunks) (Some chunks) None e

grid_unknown : (shape chunks : List ℕ) → are_chunk_lengths shape chunks ≡ false →
    grid_by builtin_names.grids shape (grid_v2 chunks) ≡ Err plugin_create
grid_unknown shape chunks fits =
    ap (λ (o : Option (List ℕ)). or_refused plugin_create (option_map regular o)) (not_read shape chunks fits)

-- the codecs of each order
abbrev forms : ArrayMetadataV2Order → ℕ → Option Endianness → List CodecForm
forms C rank o = to_bytes (plain_bytes o) ∷ []
forms F rank o = array_codec (transpose (reversed_order rank)) ∷ (to_bytes (plain_bytes o) ∷ [])

bytes_known : (rank : ℕ) (o : Option Endianness) →
    codecs_by rank builtin_names.codecs (bytes_v2 o ∷ []) ≡ Ok (to_bytes (plain_bytes o) ∷ [])
unfolding given_order
bytes_known rank None = refl
bytes_known rank (Some Little) = refl
bytes_known rank (Some Big) = refl

order_read : (order : List ℕ) → is_order order ≡ true → order_in (Some (order_members order)) ≡ Some order
unfolding order_in
order_read order is = ap (λ (read : Option (List ℕ)). read >>= if_order) (whole_numbers_read_back order)
    ∙ cond-true (is_order order) (Some order) None is

transpose_known : (rank : ℕ) →
    codec_by builtin_names.codecs (transpose_v2 rank) ≡ Ok (array_codec (transpose (reversed_order rank)))
transpose_known rank =
    ap (λ (read : Option (List ℕ)).
    or_unmade (or_config (option_map (λ (order : List ℕ). array_codec (transpose order)) read)))
    (order_read (reversed_order rank) (reversed_is_order rank))

ranked : (rank : ℕ) →
    if_ranked rank (array_codec (transpose (reversed_order rank))) ≡ Ok (array_codec (transpose (reversed_order rank)))
ranked rank =
    let serves : (length (reversed_order rank) == rank) ≡ true =
    eq-eqb (length (reversed_order rank)) rank (reversed_length rank) in
    rw serves refl

codecs_known : (order : ArrayMetadataV2Order) (rank : ℕ) (o : Option Endianness) →
    codecs_by rank builtin_names.codecs (codecs_v2 order rank o) ≡ Ok (forms order rank o)
codecs_known C rank o = bytes_known rank o
codecs_known F rank o =
    ap (λ (r : Result CodecForm OpenRefusal). opening.◌>>=◌ (opening.◌>>=◌ r (if_ranked rank)) (λ codec. opening.◌>>=◌
    (codecs_by rank builtin_names.codecs (bytes_v2 o ∷ [])) (λ codecs. Ok (codec ∷ codecs)))) (transpose_known rank)
    ∙ (ap (λ (r : Result CodecForm OpenRefusal). opening.◌>>=◌ r (λ codec. opening.◌>>=◌
    (codecs_by rank builtin_names.codecs (bytes_v2 o ∷ [])) (λ codecs. Ok (codec ∷ codecs)))) (ranked rank)
    ∙ ap (λ (r : Result (List CodecForm) OpenRefusal).
    opening.◌>>=◌ r (λ codecs. Ok (array_codec (transpose (reversed_order rank)) ∷ codecs))) (bytes_known rank o))

chain_known : (order : ArrayMetadataV2Order) (rank : ℕ) (o : Option Endianness) →
    chain_in (forms order rank o) ≡ Some (chain_v2 order rank o)
chain_known C rank o = refl
chain_known F rank o = refl

pub described : (a : ArrayV2) (stored : StoredType) (fill : Data) (filler : List ℕ) →
    are_chunk_lengths a.shape a.chunks ≡ true → fill_of (element_type stored.element) fill ≡ Some filler →
    document_of builtin_names (fields_v2 a stored fill)
    ≡ served_document (v2_keys (separator_code a.dimension_separator)) (chain_v2 a.order (length a.shape) stored.order)
    (element_type stored.element) a.shape (regular a.chunks) filler
unfolding document_of
described a stored fill filler fits denotes =
    rw (
      type_known stored.element,
      grid_known a.shape a.chunks fits,
      keys_known a.dimension_separator,
      codecs_known a.order (length a.shape) stored.order,
      denotes,
      chain_known a.order (length a.shape) stored.order,
    ) refl

-- without a chunk shape it is not
pub not_described : (a : ArrayV2) (stored : StoredType) (fill : Data) → are_chunk_lengths a.shape a.chunks ≡ false →
    document_of builtin_names (fields_v2 a stored fill) ≡ Err plugin_create
unfolding document_of
not_described a stored fill fits = rw (type_known stored.element, grid_unknown a.shape a.chunks fits) refl
