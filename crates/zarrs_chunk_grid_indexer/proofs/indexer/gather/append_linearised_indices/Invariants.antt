use Rattle.std.proofs.Common.{◌≡◌, ◌≤◌, ◌++◌, length, map, take}
use Rattle.zarr_model.specs.Region.{count_of, linear_index}
use Rattle.zarrs_chunk_grid_iterators.specs.Runs.{joined}
use Rattle.zarrs_chunk_grid_indexer.specs.Bytes.{AllWithin}
use Rattle.zarrs_chunk_grid_indexer.proofs.indexer.gather.append_linearised_indices.Given as goal

abbrev pub invariant-loop-run : goal.invariant-loop-run
invariant-loop-run g l =
    (goal.iterator-loop-run g).can_next l.run-iterator
    × (goal.iterator-loop-run g).is_finite l.run-iterator
    × (l.out.items ++ joined (g.I.Indexer.contiguous_left l.run-iterator) ≡
    l.initial.out.items ++ map (linear_index l.array_shape) (g.I.Indexer.places l.indexer))
    × AllWithin (count_of l.array_shape) (g.I.Indexer.contiguous_left l.run-iterator)
    × (take l.before l.out.items ≡ l.initial.out.items)
    × (l.before ≤ length l.out.items)
