use Rattle.zarr_shard.proofs.ShapeLaws.{chunk_some}
use Rattle.zarr_shard.proofs.array.ShardArray.with_shard.Goals as goal

pub new-requires : goal.new-requires
new-requires c = chunk_some c.args.grid _ c.requires.form
