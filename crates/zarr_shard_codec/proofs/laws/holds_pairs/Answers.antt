use Rattle.zarr_shard_codec.proofs.IndexLaws.{holds_pairs}
use Rattle.zarr_shard_codec.proofs.laws.holds_pairs.Goals as goal

pub returns : goal.returns
returns c = holds_pairs
