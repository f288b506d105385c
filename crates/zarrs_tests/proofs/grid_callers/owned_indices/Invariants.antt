use Rattle.std.proofs.Common.{◌≡◌, ◌++◌}
use Rattle.zarrs_chunk_grid.specs.Iterators.{linear_left, linear_of}
use Rattle.zarrs_tests.proofs.grid_callers.owned_indices.Given as goal

abbrev pub invariant-loop-index : goal.invariant-loop-index
invariant-loop-index l = l.all.items ++ linear_left l.index-iterator ≡ linear_of l.fn.indices
