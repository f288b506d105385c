use Rattle.zarr_shard_codec.proofs.IndexLaws.{written_is_found}
use Rattle.zarr_shard_codec.proofs.laws.written_is_found.Goals as goal

pub returns : goal.returns
returns c = written_is_found
