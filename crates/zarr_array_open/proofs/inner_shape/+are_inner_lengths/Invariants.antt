use Rattle.std.proofs.Common.{length}
use Rattle.zarr_array_open.proofs.inner_shape.+are_inner_lengths.Given as goal

abbrev pub decreases-are_inner_lengths : goal.decreases-are_inner_lengths
decreases-are_inner_lengths l = length l.chunk_shape.now
