use Rattle.std.proofs.Common.{length}
use Rattle.zarrs_array_subset.proofs.array_subset.numbers.+shape_product.Given as goal

abbrev pub decreases-shape_product : goal.decreases-shape_product
decreases-shape_product l = length l.shape.now
