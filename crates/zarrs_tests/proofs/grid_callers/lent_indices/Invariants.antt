use Rattle.std.proofs.Common.{◌≡◌, ◌++◌}
use Rattle.zarrs_chunk_grid.specs.Iterators.{linear_lent, linear_of}
use Rattle.zarrs_tests.proofs.grid_callers.lent_indices.Given as goal

abbrev pub invariant-loop-index : goal.invariant-loop-index
invariant-loop-index l = l.all.items ++ linear_lent l.index-iterator ≡ linear_of l.indices
