use Rattle.std.proofs.Common.{arith}
use Rattle.zarrs_array_subset.specs.ArraySubset.{region}
use Rattle.zarrs_chunk_grid_iterators.proofs.RowLaws.{next_below, next_rises}
use Rattle.zarrs_chunk_grid_iterators.proofs.linearised_indices_iterator.LinearisedIndices.row_after.Goals as goal

pub overflow_add-result : goal.overflow_add-result
overflow_add-result c =
    let below = next_below c.args.self.now.array_shape.items (region c.args.self.now.subset) c.args.place
    c.args.row.index c.args.row.step c.args.row.left c.args.self.now.total
    c.requires.rises (omega (arith, c.if-row-eq0.false)) c.args.self.now.inside c.args.self.now.whole
    c.requires.below in
    omega (arith, below, c.args.self.now.small)

pub returns-clause-rises : goal.returns-clause-rises
returns-clause-rises c =
    next_rises c.args.self.now.array_shape.items (region c.args.self.now.subset) c.args.place c.args.row.index
    c.args.row.step c.args.row.left c.requires.rises (omega (arith, c.if-row-eq0.false))
