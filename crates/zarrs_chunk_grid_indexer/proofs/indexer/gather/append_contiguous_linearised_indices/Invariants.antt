use Rattle.std.proofs.Common.{◌≡◌, ◌≤◌, ◌++◌, length, map, take}
use Rattle.zarrs_chunk_grid_iterators.specs.Runs.{span_of}
use Rattle.zarrs_chunk_grid_indexer.proofs.indexer.gather.append_contiguous_linearised_indices.Given as goal

abbrev pub invariant-loop-run : goal.invariant-loop-run
invariant-loop-run g l =
    (goal.iterator-loop-run g).can_next l.run-iterator
    × (goal.iterator-loop-run g).is_finite l.run-iterator
    × (map span_of l.out.items ++ g.I.Indexer.contiguous_left l.run-iterator ≡
    map span_of l.initial.out.items ++ g.I.Indexer.pieces l.indexer l.array_shape)
    × (take l.before l.out.items ≡ l.initial.out.items)
    × (l.before ≤ length l.out.items)
