use Rattle.std.proofs.Common.{sym, ◌∙◌}
use Rattle.zarrs_array_subset.specs.ArraySubset.{region}
use Rattle.zarrs_chunk_grid_iterators.proofs.RunShapes.{empty_tuple_runs}
use Rattle.zarrs_chunk_grid_iterators.proofs.contiguous_indices_iterator.ContiguousIndices.new.Goals as goal

pub returns-then-is_empty-clause-lists : goal.returns-then-is_empty-clause-lists
returns-then-is_empty-clause-lists c =
    empty_tuple_runs c.args.array_shape.now (region c.args.subset) _ 0
    (sym c.is_empty.ensures ∙ c.if-is_empty.true) c.new-starts.ensures
