use Rattle.std.proofs.Common.{◌≡◌, List, Some}
use Rattle.zarrs_codec_traits.specs.Prelude.{Element, raw_of, options_of, list_at}
use Rattle.zarr_shard_codec.specs.ShardCodec.{own_level}
use Rattle.zarr_shard_codec.proofs.EncodeLaws.{HasWritten}
use Rattle.zarr_shard_codec.proofs.inner_chunks.InnerChunks.encode_within.Given as goal

abbrev pub invariant-loop-number : goal.invariant-loop-number
invariant-loop-number l = (list : List Element) → list_at (own_level l.self.codec.now) (raw_of l.bytes) ≡ Some list
    → HasWritten l.self.codec.now (options_of l.options) list l.number l.front.items l.index.items
