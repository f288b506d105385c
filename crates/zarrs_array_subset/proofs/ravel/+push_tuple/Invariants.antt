use Rattle.std.proofs.Common.{length}
use Rattle.zarrs_array_subset.proofs.ravel.+push_tuple.Given as goal

abbrev pub decreases-push_tuple : goal.decreases-push_tuple
decreases-push_tuple l = length l.shape.now
