use Rattle.std.proofs.Common.{◌≡◌, ◌≤◌, ◌++◌, length, map, take}
use Rattle.zarrs_chunk_grid_indexer.proofs.indexer.gather.append_indices.Given as goal

abbrev pub invariant-loop-tuple : goal.invariant-loop-tuple
invariant-loop-tuple g l =
    (goal.iterator-loop-tuple g).can_next l.tuple-iterator
    × (goal.iterator-loop-tuple g).is_finite l.tuple-iterator
    × (map (λ t. t.items) l.out.items ++ g.I.Indexer.indices_left l.tuple-iterator ≡
    map (λ t. t.items) l.initial.out.items ++ g.I.Indexer.places l.indexer)
    × (take l.before l.out.items ≡ l.initial.out.items)
    × (l.before ≤ length l.out.items)
