use Rattle.std.proofs.Common.{sym, ◌∙◌}
use Rattle.zarrs_array_subset.specs.ArraySubset.{region}
use Rattle.zarrs_chunk_grid_iterators.proofs.RunShapes.{empty_runs}
use Rattle.zarrs_chunk_grid_iterators.proofs.contiguous_linearised_indices_iterator.ContiguousLinearisedIndices.new.Goals as goal

pub returns-then-is_empty-clause-lists : goal.returns-then-is_empty-clause-lists
returns-then-is_empty-clause-lists c =
    empty_runs c.args.array_shape.items (region c.args.subset) _ 0
    (sym c.is_empty.ensures ∙ c.if-is_empty.true) c.new_unchecked-starts.ensures
