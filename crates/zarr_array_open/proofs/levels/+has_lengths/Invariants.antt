use Rattle.std.proofs.Common.{length}
use Rattle.zarr_array_open.proofs.levels.+has_lengths.Given as goal

abbrev pub decreases-has_lengths : goal.decreases-has_lengths
decreases-has_lengths l = length l.shape.now
