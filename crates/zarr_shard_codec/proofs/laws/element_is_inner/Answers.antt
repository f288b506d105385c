use Rattle.zarr_shard_codec.proofs.ShardLaws.{element_is_inner}
use Rattle.zarr_shard_codec.proofs.laws.element_is_inner.Goals as goal

pub returns : goal.returns
returns c = element_is_inner
