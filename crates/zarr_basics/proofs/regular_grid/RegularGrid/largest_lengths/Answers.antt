use Rattle.std.proofs.Common.{ap, subst, sym}
use Rattle.zarr_model.specs.Prelude.{regular_grid}
use Rattle.zarr_basics.specs.Largest.{AreLargest}
use Rattle.zarr_basics.specs.Lengths.{nonzeros}
use Rattle.zarr_basics.proofs.RegularLimits.{are_largest}
use Rattle.zarr_basics.proofs.regular_grid.RegularGrid.largest_lengths.Goals as goal

pub returns : goal.returns
returns c =
    let grid = c.args.self.now in
    subst (AreLargest (regular_grid grid.array_shape.items (nonzeros grid.chunk_shape.items)))
    (sym (ap nonzeros c.as_slice.ensures.value)) (are_largest grid.array_shape.items grid.chunk_shape.items grid.rank)
