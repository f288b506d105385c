use Rattle.std.proofs.Common.{◌≡◌, ◌++◌, replicate}
use Rattle.zarrs_chunk_grid_iterators.proofs.runs.push_ones.Given as goal

abbrev pub invariant-loop-n : goal.invariant-loop-n
invariant-loop-n l = l.out.items ≡ l.initial.out.items ++ replicate l._n-index 1
