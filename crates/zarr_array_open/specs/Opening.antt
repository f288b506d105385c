-- Opening a document: what its text describes by the names that some registries know, or the first
-- reason why it is refused.
use Rattle.std.specs.Prelude.{ℕ, ⊤, codes, Bool, true, false, ◌||◌, ◌&&◌, if◌then◌else◌, List, [], ◌∷◌, length, Option}
use Rattle.std.specs.Prelude.{Some, None, Result, Ok, Err}
use Rattle.serde_json.specs.Data.{Data}
use Rattle.serde_json.specs.Read.{read as read_json}
use Rattle.serde_json.specs.Written.{has_float}
use Rattle.zarrs_codec_traits.specs.Prelude.{DataType, kind_of, fixed_size, KeyEncoding, Grid, Extension}
use Rattle.zarrs_codec_traits.specs.Prelude.{innermost_fill, Unserved}
use Rattle.zarrs_plugin.specs.Registry.{Names, find}
use Rattle.zarrs_metadata_parts.specs.AdditionalField.{AdditionalField}
use Rattle.zarrs_metadata.specs.ArrayMetadata.{ArrayFields}
use Rattle.zarrs_metadata_values.specs.Forms.{first, second}
use Rattle.zarrs_metadata.specs.AnyArray.{AnyArray, any_array_of}
use Rattle.zarrs_data_type.specs.FillMetadata.{fill_of}
use Rattle.zarrs_plugin.specs.Making.{Unmade, unsupported, config, other}
use Rattle.zarrs_data_type.specs.Making.{type_by}
use Rattle.zarrs_data_type.specs.declared.data_type.kind.DataTypeKind.{DataTypeKind}
use Rattle.zarr_basics.specs.Making.{grid_form, keys_form}
use Rattle.zarr_basics.specs.Limits.{has_large_chunk}
use Rattle.zarr_basics.specs.GridForms.{ChunkGrid, grid_of}
use Rattle.zarr_basics.specs.Registries.{KnownNames, builtin_names}
use Rattle.zarr_basics.specs.declared.grid_kind.GridKind.{GridKind}
use Rattle.zarr_basics.specs.declared.registries.ChunkKeyKind.{ChunkKeyKind}
use Rattle.zarrs_codec_traits.specs.Errors as reason
use Rattle.zarr_codecs.specs.Plain.{Plain, unserved_by, stores_lengths}
use Rattle.zarr_basics.specs.kinds.array_to_array.ArrayToArray.{ArrayToArray, array_unserved_by, array_has_rank}
use Rattle.zarr_basics.specs.kinds.array_to_array.ArrayToArray.{type_below_by}
use Rattle.zarr_codecs.specs.CodecForm.{CodecForm, array_codec, to_bytes, byte_codec, codec_named}
use Rattle.zarr_codecs.specs.declared.codec_kind.CodecKind.{CodecKind}
use Rattle.zarr_array_open.specs.Document.{ArrayDocument, ChainForm, document_with}
use Rattle.zarr_array_open.specs.Chain.{chain_in}
use Rattle.zarr_array_open.specs.Sizes.{has_long_chunk}

-- why a document is refused
pub data OpenRefusal : Type 0 where
  invalid_json : OpenRefusal
  float_number : OpenRefusal
  invalid_metadata : OpenRefusal
  unsupported_version : OpenRefusal
  unsupported_field : OpenRefusal
  plugin_unsupported : OpenRefusal
  plugin_create : OpenRefusal
  invalid_fill : OpenRefusal
  chain_order : OpenRefusal
  unsupported_data_type : OpenRefusal
  endianness_missing : OpenRefusal
  chunk_too_large : OpenRefusal

-- the name of a refusal
abbrev pub open_refusal_name : OpenRefusal → List ℕ
open_refusal_name invalid_json = codes "InvalidJson"
open_refusal_name float_number = codes "FloatNumber"
open_refusal_name invalid_metadata = codes "InvalidMetadata"
open_refusal_name unsupported_version = codes "UnsupportedVersion"
open_refusal_name unsupported_field = codes "UnsupportedField"
open_refusal_name plugin_unsupported = codes "PluginUnsupportedError"
open_refusal_name plugin_create = codes "PluginCreateError"
open_refusal_name invalid_fill = codes "DataTypeFillValueMetadataError"
open_refusal_name chain_order = codes "ChainOrder"
open_refusal_name unsupported_data_type = codes "UnsupportedDataTypeCodec"
open_refusal_name endianness_missing = codes "EndiannessMissing"
open_refusal_name chunk_too_large = codes "ChunkTooLarge"

-- what a text says, if it is opened, or the first refusal that applies
pub data OpenAnswer : Type 0 where
  opened : ArrayDocument → OpenAnswer
  not_opened : OpenRefusal → OpenAnswer

abbrev pub open_answer : Result ArrayDocument OpenRefusal → OpenAnswer
open_answer (Ok document) = opened document
open_answer (Err why) = not_opened why

-- one step after another, up to the first refusal
infixl 10 ◌>>=◌
abbrev pub ◌>>=◌ : {A B : Type 0} → Result A OpenRefusal → (A → Result B OpenRefusal) →
    Result B OpenRefusal
(Ok x) >>= f = f x
(Err why) >>= f = Err why

-- what there is, or a refusal
abbrev pub or_refused : {A : Type 0} → OpenRefusal → Option A → Result A OpenRefusal
or_refused why None = Err why
or_refused why (Some x) = Ok x

-- a field that has to be understood, and nothing here understands one
abbrev pub has_required_field : List (List ℕ × AdditionalField) → Bool
has_required_field [] = false
has_required_field (field ∷ fields) = field.1.must_understand || has_required_field fields

abbrev pub is_some_list : {A : Type 0} → List A → Bool
is_some_list [] = false
is_some_list (x ∷ xs) = true

abbrev pub expect_known_fields : ArrayFields → Result ⊤ OpenRefusal
expect_known_fields fields =
    if has_required_field fields.additional_fields || is_some_list fields.storage_transformers
    then Err unsupported_field else Ok tt

-- whether a step has an answer
abbrev pub is_opened : {A : Type 0} → Result A OpenRefusal → Bool
is_opened (Ok x) = true
is_opened (Err why) = false

-- what an extension is by its name: the kind that the name denotes, with a configuration of that
-- kind's form
abbrev pub made : {K A : Type 0} → Option K → (K → Option A) → Result A OpenRefusal
made None grammar = Err plugin_unsupported
made (Some kind) grammar = or_refused plugin_create (grammar kind)

-- why an extension is not made
abbrev pub unmade_refusal : Unmade → OpenRefusal
unmade_refusal (unsupported name) = plugin_unsupported
unmade_refusal config = plugin_create
unmade_refusal other = plugin_create

abbrev pub or_unmade : {A : Type 0} → Result A Unmade → Result A OpenRefusal
or_unmade (Ok x) = Ok x
or_unmade (Err why) = Err (unmade_refusal why)

-- the data type must be understood, which is tested before its name
abbrev pub data_type_by : Names DataTypeKind → Extension → Result DataType OpenRefusal
data_type_by names e = or_unmade (type_by names e)

abbrev pub grid_by : Names GridKind → List ℕ → Extension → Result ChunkGrid OpenRefusal
grid_by names dims e = made (find e.name names) (λ kind. grid_form dims kind e.configuration)

abbrev pub keys_by : Names ChunkKeyKind → Extension → Result KeyEncoding OpenRefusal
keys_by names e = made (find e.name names) (λ kind. keys_form kind e.configuration)

-- a codec by its name, with the codecs inside by theirs
abbrev pub codec_by : Names CodecKind → Extension → Result CodecForm OpenRefusal
codec_by names e = or_unmade (codec_named names e)

-- an array-to-array codec serves shapes of the array's rank
abbrev pub has_rank : ℕ → CodecForm → Bool
has_rank rank (array_codec codec) = array_has_rank rank codec
has_rank rank (to_bytes codec) = true
has_rank rank (byte_codec codec) = true

abbrev pub if_ranked : ℕ → CodecForm → Result CodecForm OpenRefusal
if_ranked rank codec = if has_rank rank codec then Ok codec else Err plugin_create

-- which is tested once the codec is made, before the next one's name
abbrev pub codec_at : ℕ → Names CodecKind → Extension → Result CodecForm OpenRefusal
codec_at rank names e = codec_by names e >>= if_ranked rank

-- the codecs of a document in its order
abbrev pub codecs_by : ℕ → Names CodecKind → List Extension →
    Result (List CodecForm) OpenRefusal
codecs_by rank names [] = Ok []
codecs_by rank names (e ∷ es) =
    codec_at rank names e >>= λ codec. codecs_by rank names es >>= λ codecs. Ok (codec ∷ codecs)

-- a codec serves what comes to it, or the reason why it does not decides
abbrev pub unserved_refusal : Unserved → OpenRefusal
unserved_refusal (reason.unsupported name) = unsupported_data_type
unserved_refusal reason.endianness_missing = endianness_missing

abbrev pub unless_unserved : Option Unserved → Result ⊤ OpenRefusal
unless_unserved None = Ok tt
unless_unserved (Some why) = Err (unserved_refusal why)

-- the data type below an array-to-array codec that serves the one above
abbrev pub type_below : ArrayToArray → DataType → Result DataType OpenRefusal
type_below codec type = unless_unserved (array_unserved_by codec None (Some type)) >>= λ _.
    Ok (type_below_by codec type)

-- the data type that comes to the array-to-bytes codec
abbrev pub bottom_type : List ArrayToArray → DataType → Result DataType OpenRefusal
bottom_type [] type = Ok type
bottom_type (codec ∷ codecs) type = type_below codec type >>= bottom_type codecs

-- an array-to-bytes codec serves a type; the first reason why the innermost codec does not decides
abbrev pub expect_bytes : Plain → DataType → Result ⊤ OpenRefusal
expect_bytes codec type = unless_unserved (unserved_by codec type)

-- each array-to-array codec of a chain serves the type that comes to it, and so does the
-- array-to-bytes codec
abbrev pub expect_chain : ChainForm → DataType → Result ⊤ OpenRefusal
expect_chain chain type = bottom_type chain.array_codecs type >>= expect_bytes chain.to_bytes

abbrev pub is_served : ChainForm → DataType → Bool
is_served chain type = is_opened (expect_chain chain type)

-- a chunk can't be held or addressed, or its lengths can't be stored where they have to be
abbrev pub is_large : Plain → DataType → List ℕ → Grid → Bool
is_large codec type filler grid = has_large_chunk grid (fixed_size (kind_of type))
    || (stores_lengths codec && has_long_chunk grid (innermost_fill (kind_of type) filler))

abbrev pub expect_small_chunks : Plain → DataType → List ℕ → Grid → Result ⊤ OpenRefusal
expect_small_chunks codec type filler grid =
    if is_large codec type filler grid then Err chunk_too_large else Ok tt

-- the document of these parts, if the codecs serve them
abbrev pub served_document : KeyEncoding → ChainForm → DataType → List ℕ → ChunkGrid → List ℕ →
    Result ArrayDocument OpenRefusal
served_document keys chain type dims grid filler =
    expect_chain chain type >>= λ _.
    expect_small_chunks chain.to_bytes type filler (grid_of dims grid) >>= λ _.
    Ok (document_with keys chain type dims grid filler)

-- the array that the fields of a document describe; the first step that refuses decides
unfoldable pub document_of : KnownNames → ArrayFields → Result ArrayDocument OpenRefusal
document_of names fields = do
  _ ← expect_known_fields fields
  type ← data_type_by names.data_types fields.data_type
  grid ← grid_by names.grids fields.shape fields.chunk_grid
  keys ← keys_by names.key_encodings fields.chunk_key_encoding
  codecs ← codecs_by (length fields.shape) names.codecs fields.codecs
  filler ← or_refused invalid_fill (fill_of type fields.fill_value)
  chain ← or_refused chain_order (chain_in codecs)
  served_document keys chain type fields.shape grid filler

-- an array document is of version 3, or of version 2, which is not opened
abbrev pub expect_version_3 : AnyArray → Result ArrayFields OpenRefusal
expect_version_3 (first fields) = Ok fields
expect_version_3 (second fields) = Err unsupported_version

-- the fields of a value without floats that is a version 3 array document
abbrev pub fields_if : Bool → Option AnyArray → Result ArrayFields OpenRefusal
fields_if float document =
    if float then Err float_number
    else (or_refused invalid_metadata document >>= expect_version_3)

abbrev pub fields_in : Data → Result ArrayFields OpenRefusal
fields_in d = fields_if (has_float d) (any_array_of d)

-- opening a text, from what it reads as
abbrev pub fields_read : Option Data → Result ArrayFields OpenRefusal
fields_read value = or_refused invalid_json value >>= fields_in

abbrev pub document_read : KnownNames → Option Data → Result ArrayDocument OpenRefusal
document_read names value = fields_read value >>= document_of names

abbrev pub open_document : KnownNames → List ℕ → OpenAnswer
open_document names text = open_answer (document_read names (read_json text))

-- the same by the built-in names alone
abbrev pub open_builtin : List ℕ → OpenAnswer
open_builtin text = open_document builtin_names text
