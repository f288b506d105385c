use Rattle.std.proofs.Common.{◌∙◌, ap, subst, sym}
use Rattle.zarr_model.specs.Prelude.{boundary_grid}
use Rattle.zarr_basics.specs.Axes.{lengths_of}
use Rattle.zarr_basics.specs.Largest.{AreLargest}
use Rattle.zarr_basics.specs.Lengths.{nonzeros}
use Rattle.zarr_basics.proofs.LargeChunks.{are_largest}
use Rattle.zarr_basics.proofs.boundary_grid.BoundaryGrid.largest_lengths.Goals as goal

pub returns : goal.returns
returns c =
    let grid = c.args.self.now in
    subst (AreLargest (boundary_grid (lengths_of grid.axes.items)))
    (sym (ap nonzeros c.as_slice.ensures.value ∙ grid.most)) (are_largest grid.axes.items)
