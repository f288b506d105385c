use Rattle.std.proofs.Common.{length}
use Rattle.zarr_basics.proofs.limits.+num_elements.Given as goal

abbrev pub decreases-num_elements : goal.decreases-num_elements
decreases-num_elements l = length l.lengths.now
