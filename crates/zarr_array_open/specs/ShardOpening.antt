-- Opening the document of a sharded array: what its text says by the names that some registries
-- know, or the first reason why it is refused. What is so of plain documents too is said by the
-- same steps.
use Rattle.std.specs.Prelude.{ℕ, ⊤, ◌^◌, codes, bytes_eq, nat_le, Bool, ◌||◌, ◌&&◌, if◌then◌else◌, List, [], ◌∷◌}
use Rattle.std.specs.Prelude.{length, is_some, Option, Some, None, Result, Ok, Err}
use Rattle.serde_json.specs.Data.{Data}
use Rattle.serde_json.specs.Read.{read as read_json}
use Rattle.zarrs_codec_traits.specs.Prelude.{DataType, KeyEncoding, default_keys, kind_of, fixed_size, fill_element}
use Rattle.zarrs_codec_traits.specs.Prelude.{count_of, is_too_large, regular_grid, Extension, is_type}
use Rattle.zarrs_plugin.specs.Registry.{Names, find}
use Rattle.zarrs_metadata.specs.ArrayMetadata.{ArrayFields}
use Rattle.zarrs_data_type.specs.FillMetadata.{fill_of}
use Rattle.zarr_basics.specs.GridConfigurations.{chunk_shape_in}
use Rattle.zarr_basics.specs.GridForms.{regular, grid_of}
use Rattle.zarr_basics.specs.Limits.{has_large_chunk}
use Rattle.zarr_basics.specs.declared.grid_kind.GridKind.{GridKind}
use Rattle.zarr_basics.specs.declared.grid_kind.GridKind.TheVariants.{Regular, Boundary}
use Rattle.zarr_basics.specs.Registries.{KnownNames, builtin_names}
use Rattle.zarr_codecs.specs.CodecForm.{CodecForm}
use Rattle.zarr_codecs.specs.declared.codec_kind.CodecKind.{CodecKind}
use Rattle.zarr_array_open.specs.Chain.{chain_in}
use Rattle.zarr_array_open.specs.Document.{ArrayDocument}
use Rattle.zarr_array_open.specs.Opening.{OpenRefusal, plugin_create, invalid_fill, chain_order, chunk_too_large, ◌>>=◌}
use Rattle.zarr_array_open.specs.Opening.{or_refused, made, expect_known_fields, data_type_by, keys_by, codec_at}
use Rattle.zarr_array_open.specs.Opening.{codecs_by, served_document, fields_read}
use Rattle.zarr_array_open.specs.Sharding.{Sharding, sharding_in}
use Rattle.zarr_array_open.specs.ShardDocument.{ShardForm, ShardDocument, sharded, index_size}

-- the grid is of the kind `regular`, which is tested with its name
abbrev pub if_regular : Option GridKind → Option GridKind
if_regular None = None
if_regular (Some Regular) = Some Regular
if_regular (Some Boundary) = None

-- the chunk shape of such a grid over an array's shape
abbrev pub chunk_shape_by : Names GridKind → List ℕ → Extension → Result (List ℕ) OpenRefusal
chunk_shape_by names dims e =
    made (if_regular (find e.name names)) (λ kind. chunk_shape_in dims e.configuration)

-- chunks of a shape with inner chunks in them, whose codecs are made
pub record ShardCodecs : Type 0 where
  pub chunk_shape : List ℕ
  pub inner_shape : List ℕ
  pub codecs : List CodecForm
  pub checked : Bool

-- a codec of a document: that of shards, or one of a registry
pub data DocumentCodec : Type 0 where
  sharding : ShardCodecs → DocumentCodec
  other : CodecForm → DocumentCodec

-- the codec of shards for chunks of a shape: its configuration, then the codecs inside in order
abbrev pub shard_codecs : List ℕ → Names CodecKind → Sharding → Result ShardCodecs OpenRefusal
shard_codecs dims names read =
    codecs_by (length dims) names read.codecs >>= λ codecs. Ok (record {
      chunk_shape = dims;
      inner_shape = read.inner_shape;
      codecs = codecs;
      checked = read.checked;
    })

abbrev pub sharding_by : List ℕ → Names CodecKind → Extension → Result ShardCodecs OpenRefusal
sharding_by dims names e =
    or_refused plugin_create (sharding_in dims e.configuration) >>= shard_codecs dims names

-- a codec of a document by its name
abbrev pub document_codec : List ℕ → Names CodecKind → Extension →
    Result DocumentCodec OpenRefusal
document_codec dims names e = if bytes_eq e.name (codes "sharding_indexed")
    then (sharding_by dims names e >>= λ shard. Ok (sharding shard))
    else (codec_at (length dims) names e >>= λ codec. Ok (other codec))

-- the codecs of a document in its order
abbrev pub document_codecs : List ℕ → Names CodecKind → List Extension →
    Result (List DocumentCodec) OpenRefusal
document_codecs dims names [] = Ok []
document_codecs dims names (e ∷ es) =
    document_codec dims names e >>= λ codec.
    document_codecs dims names es >>= λ codecs. Ok (codec ∷ codecs)

-- that of shards, if it is there once and nothing else is
abbrev pub only_sharding : List DocumentCodec → Option ShardCodecs
only_sharding [] = None
only_sharding (sharding shard ∷ []) = Some shard
only_sharding (sharding shard ∷ codec ∷ codecs) = None
only_sharding (other codec ∷ codecs) = None

-- a chunk has more elements or bytes than can be addressed, of elements one more, or its index has
abbrev pub is_large_shard : ArrayDocument → Bool → Bool
is_large_shard inner checked =
    is_too_large (fixed_size (kind_of inner.data_type)) (count_of inner.shape)
    || nat_le (2 ^ 64)
    (index_size checked (count_of (grid_of inner.shape inner.grid).grid_shape))

abbrev pub small_shard : Bool → ArrayDocument → Result ShardForm OpenRefusal
small_shard checked inner = if is_large_shard inner checked then Err chunk_too_large
    else Ok (record { inner = inner; checked = checked })

-- the inner chunks of a chunk as those of an array with the chunk's shape, which a chain serves
abbrev pub inner_with : KeyEncoding → DataType → List ℕ → ShardCodecs →
    Result ArrayDocument OpenRefusal
inner_with keys type filler shard = or_refused chain_order (chain_in shard.codecs) >>= λ chain.
    served_document keys chain type shard.chunk_shape (regular shard.inner_shape) filler

-- and with them how a chunk keeps them
abbrev pub shard_with : KeyEncoding → DataType → List ℕ → ShardCodecs →
    Result ShardForm OpenRefusal
shard_with keys type filler shard =
    inner_with keys type filler shard >>= small_shard shard.checked

-- in an array of this shape some chunk, which is an array of inner chunks, ends past 64 bits or has
-- too many elements or bytes
abbrev pub has_large_shard : List ℕ → ArrayDocument → Bool
has_large_shard dims inner =
    has_large_chunk (regular_grid dims inner.shape) (fixed_size (kind_of inner.data_type))

-- the document of an array of this shape, whose chunks keep inner chunks so
abbrev pub sharded_over : List ℕ → ShardForm → Result ShardDocument OpenRefusal
sharded_over dims shard = if has_large_shard dims shard.inner then Err chunk_too_large
    else Ok (sharded dims shard)

-- the sharded array that the fields of a document describe; the first step that refuses decides
unfoldable pub shard_document_of : KnownNames → ArrayFields → Result ShardDocument OpenRefusal
shard_document_of names fields = do
  _ ← expect_known_fields fields
  type ← data_type_by names.data_types fields.data_type
  chunk_shape ← chunk_shape_by names.grids fields.shape fields.chunk_grid
  keys ← keys_by names.key_encodings fields.chunk_key_encoding
  codecs ← document_codecs chunk_shape names.codecs fields.codecs
  filler ← or_refused invalid_fill (fill_of type fields.fill_value)
  shard ← or_refused chain_order (only_sharding codecs)
  form ← shard_with keys type filler shard
  sharded_over fields.shape form

-- what a text says, if it is opened, or the first refusal that applies
pub data ShardAnswer : Type 0 where
  opened : ShardDocument → ShardAnswer
  not_opened : OpenRefusal → ShardAnswer

abbrev pub shard_answer : Result ShardDocument OpenRefusal → ShardAnswer
shard_answer (Ok document) = opened document
shard_answer (Err why) = not_opened why

-- opening a text, from what it reads as
abbrev pub shard_document_read : KnownNames → Option Data → Result ShardDocument OpenRefusal
shard_document_read names value = fields_read value >>= shard_document_of names

abbrev pub open_sharded : KnownNames → List ℕ → ShardAnswer
open_sharded names text = shard_answer (shard_document_read names (read_json text))

-- the same by the built-in names alone
abbrev pub open_builtin_sharded : List ℕ → ShardAnswer
open_builtin_sharded text = open_sharded builtin_names text

-- bytes denote an element of a data type
abbrev pub is_element : DataType → List ℕ → Bool
is_element type filler = is_type type && is_some (fill_element (kind_of type) filler)

abbrev pub expect_element : DataType → List ℕ → Result ⊤ OpenRefusal
expect_element type filler = if is_element type filler then Ok tt else Err invalid_fill

-- how the chunks of one shape, with elements of a type, keep inner chunks by the metadata of their
-- only codec; chunks have no keys here
unfoldable pub shard_of_chunk : Names CodecKind → List ℕ → DataType → List ℕ → Extension →
    Result ShardForm OpenRefusal
shard_of_chunk names dims type filler e = do
  codec ← document_codec dims names e
  _ ← expect_element type filler
  shard ← or_refused chain_order (only_sharding (codec ∷ []))
  shard_with (default_keys 47) type filler shard
