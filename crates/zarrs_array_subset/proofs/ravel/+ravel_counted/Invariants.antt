use Rattle.std.proofs.Common.{length}
use Rattle.zarrs_array_subset.proofs.ravel.+ravel_counted.Given as goal

abbrev pub decreases-ravel_counted : goal.decreases-ravel_counted
decreases-ravel_counted l = length l.shape.now
