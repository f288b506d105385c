use Rattle.zarr_shard_codec.proofs.RegionLaws as law
use Rattle.zarr_shard_codec.proofs.read_region.selects_region.Goals as goal

pub returns : goal.returns
returns c = law.selects_region
