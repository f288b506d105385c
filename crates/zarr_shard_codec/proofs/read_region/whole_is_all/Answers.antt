use Rattle.zarr_shard_codec.proofs.RegionLaws as law
use Rattle.zarr_shard_codec.proofs.read_region.whole_is_all.Goals as goal

pub returns : goal.returns
returns c = law.whole_is_all
