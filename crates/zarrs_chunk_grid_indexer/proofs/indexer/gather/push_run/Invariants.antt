use Rattle.std.proofs.Common.{◌≡◌, ◌≤◌, ◌++◌, ◌+◌, ◌-◌, length, take}
use Rattle.std.specs.List.{range_with_len}
use Rattle.zarrs_chunk_grid_indexer.proofs.indexer.gather.push_run.Given as goal

abbrev pub invariant-loop-index : goal.invariant-loop-index
invariant-loop-index l =
    (l.out.items ++ range_with_len l.index (l.first + l.count - l.index) ≡
    l.initial.out.items ++ range_with_len l.first l.count)
    × (take l.before l.out.items ≡ l.initial.out.items)
    × (l.before ≤ length l.out.items)
