-- A sharded array: its document, and the array that it describes. A chunk's value holds inner
-- chunks and an index of them; what it decodes to is the chain of the array.
use Rattle.std.specs.Prelude.{◌≡◌, ℕ, Bool, List, [], is_some, Result, Ok, Err}
use Rattle.zarr_model.specs.Prelude.{Region, Level, Options, Description, decode_chain, chunk_key}
use Rattle.zarr_basics.specs.BasicGrid.{basic_shape}
use Rattle.zarr_basics.specs.GridForms.{regular, grid_of}
use Rattle.zarr_array_open.specs.Document.{ArrayDocument, describe}
use Rattle.zarr_array_open.specs.OpenError.{open_refusal_of}
use Rattle.zarr_array_open.specs.declared.open_error.OpenError.{OpenError}
use Rattle.zarr_array_open.specs.ShardDocument.{ShardDocument, sharded}
use Rattle.zarr_array_open.specs.ShardOpening.{ShardAnswer, opened}
use Rattle.zarr_array_open.specs.Views.{IsShardRefusedBy}
use Rattle.zarr_shard_codec.specs.Region.{region_list}
use Rattle.zarr_shard_codec.specs.Shard.{Form, Meaning, inner_array, decode_shard}
use Rattle.zarr_shard_codec.specs.ShardCodec.{codec_shard_form}
use Rattle.zarr_shard.specs.declared.array.ShardArray.{ShardArray}

-- a chunk as an array of its own, which its inner chunks are the chunks of
abbrev pub inner_document : ShardDocument → ArrayDocument
inner_document document = record {
  shape = document.chunk_shape;
  data_type = document.data_type;
  fill = document.fill;
  grid = regular document.inner_shape;
  keys = document.keys;
  array_codecs = document.inner.array_codecs;
  to_bytes = document.inner.to_bytes;
  byte_codecs = document.inner.byte_codecs;
}

-- what the bytes of an inner chunk decode to
abbrev pub inner_meaning : ShardDocument → Options → Meaning
inner_meaning document under = decode_chain ((describe (inner_document document)).chain under)

-- the shape of inner chunks, and whether the number of the index stands behind it
abbrev pub document_inner_form : ShardDocument → Form
document_inner_form document = record {
  inner_shape = document.inner_shape;
  checked = document.checked;
}

-- what a chunk's value decodes to
abbrev pub document_meaning : ShardDocument → Options → Meaning
document_meaning document under = decode_shard (document_inner_form document)
    under.validate_checksums
    (inner_meaning document under)

-- whether a value that need not decode holds a region of a chunk: its index is found, and each
-- inner chunk that the region meets has elements
abbrev pub finds_region : ShardDocument → Options → Level → Region → List ℕ → Bool
finds_region document under level region value =
    is_some (region_list document.checked under.validate_checksums
    (inner_array (document_inner_form document) (inner_meaning document under) level) region value)

-- the array that a document describes
abbrev pub describe_sharded : ShardDocument → Description
describe_sharded document = record {
  shape = document.shape;
  data_type = document.data_type;
  fill = document.fill;
  grid = grid_of document.shape (regular document.chunk_shape);
  key = chunk_key document.keys;
  chain = λ under. record {
    array_codecs = [];
    to_elements = document_meaning document under;
    byte_codecs = [];
  };
  finds = finds_region document;
}

-- an array's document, and what it describes
abbrev pub documented_shards : ShardArray → ShardDocument
documented_shards array = sharded (basic_shape array.grid) (codec_shard_form array.codec)

abbrev pub described_shards : ShardArray → Description
described_shards array = describe_sharded (documented_shards array)

-- opening gave the array of the document, or the refusal of the text
abbrev pub OpensShardsAs : Result ShardArray OpenError → ShardAnswer → Type 0
OpensShardsAs (Ok array) answer = answer ≡ opened (documented_shards array)
OpensShardsAs (Err error) answer = IsShardRefusedBy (open_refusal_of error) answer
