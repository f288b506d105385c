-- Where inner chunks lie.
use Rattle.std.specs.Prelude.{ℕ, List}
use Rattle.zarrs_codec_traits.specs.Prelude.{Region, whole, place, tuple_at}
use Rattle.zarrs_codec_array_bytes.specs.declared.array_bytes.ArrayBytes as code
use Rattle.zarr_shard_codec.specs.ShardCodec.{inner_grid}
use Rattle.zarr_shard_codec.specs.declared.shard_codec.ShardCodec.{ShardCodec}

-- the indices of the inner chunk of a number, and its box
abbrev pub indices_at : ShardCodec → ℕ → List ℕ
indices_at codec number = tuple_at (whole (inner_grid codec).grid_shape) number

abbrev pub box_at : ShardCodec → ℕ → Region
box_at codec number = (inner_grid codec).chunk_box (indices_at codec number)

-- the number of an inner chunk in the index
abbrev pub inner_number : ShardCodec → List ℕ → ℕ
inner_number codec chunk = place (whole (inner_grid codec).grid_shape) chunk
