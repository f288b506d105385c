use Rattle.std.proofs.Common.{arith}
use Rattle.zarrs_chunk_grid_iterators.proofs.Linears.{linear_step, linear_none}
use Rattle.zarrs_chunk_grid_iterators.proofs.RowLaws.{along_axis, inside_axis}
use Rattle.zarrs_chunk_grid_iterators.proofs.rows.+row_of_place.Goals as goal

pub overflow_mul-index : goal.overflow_mul-index
overflow_mul-index t c =
    let l = linear_step c.args.start.now c.args.shape.now c.args.array_shape.now c.args.place c.args.total
    c.row_of_place-stride.result.0.index c.row_of_place-stride.result.1
    c.requires.fits c.requires.inside (omega arith) (omega arith) (omega arith) c.requires.whole c.requires.below
    c.row_of_place-stride.ensures.index c.row_of_place-stride.ensures.stride in
    omega (arith, l.1, c.requires.small)

pub overflow_add-index-in-len1-up-array_shape : goal.overflow_add-index-in-len1-up-array_shape
overflow_add-index-in-len1-up-array_shape t c =
    let l = linear_step c.args.start.now c.args.shape.now c.args.array_shape.now c.args.place c.args.total
    c.row_of_place-stride.result.0.index c.row_of_place-stride.result.1
    c.requires.fits c.requires.inside (omega arith) (omega arith) (omega arith) c.requires.whole c.requires.below
    c.row_of_place-stride.ensures.index c.row_of_place-stride.ensures.stride in
    omega (arith, l.1, c.requires.small)

pub returns-in-empty-clause-index : goal.returns-in-empty-clause-index
returns-in-empty-clause-index t c = (linear_none c.args.start.now c.args.shape.now c.args.array_shape.now c.args.place
    (omega arith) c.requires.fits c.requires.inside).0

pub returns-in-empty-clause-stride : goal.returns-in-empty-clause-stride
returns-in-empty-clause-stride t c = (linear_none c.args.start.now c.args.shape.now c.args.array_shape.now c.args.place
    (omega arith) c.requires.fits c.requires.inside).1

pub returns-then-total-eq1-clause-index : goal.returns-then-total-eq1-clause-index
returns-then-total-eq1-clause-index t c =
    (linear_step c.args.start.now c.args.shape.now c.args.array_shape.now c.args.place c.args.total
    c.row_of_place-stride.result.0.index c.row_of_place-stride.result.1
    c.requires.fits c.requires.inside (omega arith) (omega arith) (omega arith) c.requires.whole c.requires.below
    c.row_of_place-stride.ensures.index c.row_of_place-stride.ensures.stride).0

pub returns-then-total-eq1-clause-rises : goal.returns-then-total-eq1-clause-rises
returns-then-total-eq1-clause-rises t c =
    let l = linear_step c.args.start.now c.args.shape.now c.args.array_shape.now c.args.place c.args.total
    c.row_of_place-stride.result.0.index c.row_of_place-stride.result.1
    c.requires.fits c.requires.inside (omega arith) (omega arith) (omega arith) c.requires.whole c.requires.below
    c.row_of_place-stride.ensures.index c.row_of_place-stride.ensures.stride in
    along_axis c.args.start.now c.args.shape.now c.args.array_shape.now c.args.place c.args.total _
    c.row_of_place-stride.result.1 _
    c.requires.fits (omega arith) (omega arith) (omega arith) c.requires.whole c.requires.below c.if-total-eq1.true l.0
    c.row_of_place-stride.ensures.stride

pub returns-else-total-eq1-clause-index : goal.returns-else-total-eq1-clause-index
returns-else-total-eq1-clause-index t c =
    (linear_step c.args.start.now c.args.shape.now c.args.array_shape.now c.args.place c.args.total
    c.row_of_place-stride.result.0.index c.row_of_place-stride.result.1
    c.requires.fits c.requires.inside (omega arith) (omega arith) (omega arith) c.requires.whole c.requires.below
    c.row_of_place-stride.ensures.index c.row_of_place-stride.ensures.stride).0

pub returns-else-total-eq1-clause-rises : goal.returns-else-total-eq1-clause-rises
returns-else-total-eq1-clause-rises t c =
    inside_axis c.args.start.now c.args.shape.now c.args.array_shape.now c.args.place c.args.total
    c.row_of_place-stride.result.0.index c.row_of_place-stride.result.0.step c.row_of_place-stride.result.1
    c.row_of_place-stride.result.0.left
    c.requires.fits (omega arith) (omega arith) (omega arith) c.requires.whole c.requires.below
    c.row_of_place-stride.ensures.stride c.row_of_place-stride.ensures.within c.row_of_place-stride.ensures.rises
