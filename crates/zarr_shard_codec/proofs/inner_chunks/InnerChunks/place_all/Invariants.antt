use Rattle.zarrs_codec_traits.specs.Prelude.{whole, options_of}
use Rattle.zarr_array_boxes.specs.BoxElements.{list_held}
use Rattle.zarr_shard_codec.specs.ShardCodec.{inner_of}
use Rattle.zarr_shard_codec.specs.Whole.{HoldsOver}
use Rattle.zarr_shard_codec.proofs.WholeLaws.{HasPutSome}
use Rattle.zarr_shard_codec.proofs.inner_chunks.InnerChunks.place_all.Given as goal

abbrev pub invariant-loop-number : goal.invariant-loop-number
invariant-loop-number l =
    HoldsOver l.self.codec.now (whole (inner_of l.self.codec.now).shape) l.elements
    × HasPutSome l.self.codec.now (options_of l.options) l.value l.index l.number (list_held l.elements)
