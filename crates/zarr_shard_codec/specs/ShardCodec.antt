-- What a `ShardCodec` stands for.
use Rattle.std.specs.Prelude.{ℕ, List, Option}
use Rattle.zarr_model.specs.Prelude.{Element, Grid, Layout, Level, Options, Description, layout, decode_chain}
use Rattle.zarr_basics.specs.Lengths.{nonzeros}
use Rattle.zarrs_codec_error.specs.declared.error.CodecError.{CodecError}
use Rattle.zarr_codec_chain.specs.Chain.{chain_says}
use Rattle.zarr_codec_chain.specs.declared.levels.ChunkLevels.{ChunkLevels}
use Rattle.zarr_array_open.specs.ChunkLevels.{shape_level, ServesShape}
use Rattle.zarr_array_open.specs.Codecs.{list_says, bytes_meaning, bytes_codec_says}
use Rattle.zarr_array_open.specs.Parts.{described_parts}
use Rattle.zarr_array_open.specs.ShardDocument.{ShardForm}
use Rattle.zarr_array_open.specs.Views.{shard_form}
use Rattle.zarr_shard_codec.specs.Shard.{Form, shard_list, decode_shard}
use Rattle.zarr_shard_codec.specs.declared.shard_codec.ShardCodec.{ShardCodec}

-- how a chunk keeps inner chunks
abbrev pub codec_shard_form : ShardCodec → ShardForm
codec_shard_form codec = shard_form codec.shard

-- the array whose chunks are the inner ones, and their grid
abbrev pub inner_of : ShardCodec → Description
inner_of codec = described_parts codec.shard.inner

abbrev pub inner_grid : ShardCodec → Grid
inner_grid codec = (inner_of codec).grid

-- the shape of an inner chunk
abbrev pub inner_dims : ShardCodec → List ℕ
inner_dims codec = nonzeros codec.inner_shape.items

-- the level of an inner chunk, and that of the chunk
abbrev pub inner_level : ShardCodec → Level
inner_level codec = shape_level (inner_of codec) (inner_dims codec)

abbrev pub own_level : ShardCodec → Level
own_level codec = shape_level (inner_of codec) (inner_of codec).shape

-- how the inner chunks would lie in a store under some options
abbrev pub own_array : ShardCodec → Options → Layout Element
own_array codec under = layout (inner_of codec) under

-- what the bytes of an inner chunk decode to
abbrev pub inner_decoded : ShardCodec → Options → List ℕ → Option (List Element)
inner_decoded codec under value = (own_array codec under).decode (inner_dims codec) value

-- what a value decodes to
abbrev pub own_list : ShardCodec → Options → List ℕ → Option (List Element)
own_list codec under value =
    shard_list codec.shard.checked under.validate_checksums (own_array codec under) value

-- the same at any level, by the codec's form
abbrev pub codec_inner_form : ShardCodec → Form
codec_inner_form codec = record { inner_shape = inner_dims codec; checked = codec.shard.checked }

abbrev pub shard_meaning : ShardCodec → Options → Level → List ℕ → Option (List Element)
shard_meaning codec under level value =
    decode_shard (codec_inner_form codec) under.validate_checksums
    (decode_chain ((inner_of codec).chain under)) level value

-- which errors tell that the bytes of an inner chunk do not decode: those of its chain
pub record InnerSays (codec : ShardCodec) (under : Options) (value : List ℕ) (e : CodecError)
    : Type 0 where
  pub levels : ChunkLevels
  pub serves : ServesShape codec.shard.inner (inner_dims codec) codec.shard.inner.chain levels
  pub said : chain_says list_says bytes_meaning bytes_codec_says codec.shard.inner.chain levels
      under value e
