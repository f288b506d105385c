use Rattle.zarr_shard_codec.proofs.ShardLaws.{selects_inner}
use Rattle.zarr_shard_codec.proofs.laws.selects_inner.Goals as goal

pub returns : goal.returns
returns c = selects_inner
