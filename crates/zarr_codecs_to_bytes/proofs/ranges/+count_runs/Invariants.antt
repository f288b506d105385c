use Rattle.std.proofs.Common.{length}
use Rattle.zarr_codecs_to_bytes.proofs.ranges.+count_runs.Given as goal

abbrev pub decreases-count_runs : goal.decreases-count_runs
decreases-count_runs l = length l.array_shape.now
