use Rattle.zarr_shard_codec.specs.Counted.{shard_counted}
use Rattle.zarr_shard_codec.proofs.laws.counted.Goals as goal

pub returns : goal.returns
returns c = shard_counted
