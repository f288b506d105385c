-- What the document of a sharded array says.
use Rattle.std.specs.Prelude.{ℕ, Bool, true, false, ◌+◌, ◌*◌, List, []}
use Rattle.zarr_model.specs.Prelude.{Element, DataType, KeyEncoding}
use Rattle.zarr_basics.specs.GridForms.{ChunkGrid, regular, boundaries}
use Rattle.zarr_array_open.specs.Document.{ChainForm, ArrayDocument}

-- how a chunk keeps inner chunks: as an array of its own, which they are the chunks of, with an
-- index that has a CRC-32C behind it or not
pub record ShardForm : Type 0 where
  pub inner : ArrayDocument
  pub checked : Bool

-- the chunk shape of a grid `regular`
abbrev pub grid_lengths_of : ChunkGrid → List ℕ
grid_lengths_of (regular chunk_shape) = chunk_shape
grid_lengths_of (boundaries lengths) = []

abbrev pub is_regular_grid : ChunkGrid → Bool
is_regular_grid (regular chunk_shape) = true
is_regular_grid (boundaries lengths) = false

-- the lengths of a chunk, and of an inner chunk
abbrev pub shard_shape : ShardForm → List ℕ
shard_shape shard = shard.inner.shape

abbrev pub inner_shape : ShardForm → List ℕ
inner_shape shard = grid_lengths_of shard.inner.grid

-- the codecs of an inner chunk
abbrev pub inner_chain : ShardForm → ChainForm
inner_chain shard = record {
  array_codecs = shard.inner.array_codecs;
  to_bytes = shard.inner.to_bytes;
  byte_codecs = shard.inner.byte_codecs;
}

-- what a document says
pub record ShardDocument : Type 0 where
  pub shape : List ℕ
  pub data_type : DataType
  pub fill : Element
  pub chunk_shape : List ℕ
  pub keys : KeyEncoding
  pub inner_shape : List ℕ
  pub inner : ChainForm
  pub checked : Bool

-- the document of an array of this shape, whose chunks keep inner chunks so
abbrev pub sharded : List ℕ → ShardForm → ShardDocument
sharded dims shard = record {
  shape = dims;
  data_type = shard.inner.data_type;
  fill = shard.inner.fill;
  chunk_shape = shard_shape shard;
  keys = shard.inner.keys;
  inner_shape = inner_shape shard;
  inner = inner_chain shard;
  checked = shard.checked;
}

-- how many bytes an index of so many inner chunks has: two numbers of 8 bytes for each, and the
-- CRC-32C
abbrev pub index_size : Bool → ℕ → ℕ
index_size false number = 16 * number
index_size true number = 16 * number + 4
