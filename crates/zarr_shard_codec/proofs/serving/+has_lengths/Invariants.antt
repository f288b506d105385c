use Rattle.std.proofs.Common.{length}
use Rattle.zarr_shard_codec.proofs.serving.+has_lengths.Given as goal

abbrev pub decreases-has_lengths : goal.decreases-has_lengths
decreases-has_lengths l = length l.numbers.now
