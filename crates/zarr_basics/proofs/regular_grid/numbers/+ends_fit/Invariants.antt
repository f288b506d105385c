use Rattle.std.proofs.Common.{length}
use Rattle.zarr_basics.proofs.regular_grid.numbers.+ends_fit.Given as goal

abbrev pub decreases-ends_fit : goal.decreases-ends_fit
decreases-ends_fit l = length l.counts.now
