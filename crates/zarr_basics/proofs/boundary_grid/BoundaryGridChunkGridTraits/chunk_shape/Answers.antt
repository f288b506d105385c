use Rattle.std.proofs.Common.{ap, length, arith}
use Rattle.zarr_basics.proofs.AxisFacts.{same_rank}
use Rattle.zarr_basics.proofs.boundary_grid.BoundaryGridChunkGridTraits.chunk_shape.Goals as goal

pub lengths_at-requires : goal.lengths_at-requires
lengths_at-requires c =
    let grid = c.args.self.now in
    omega (
      arith,
      ap length c.deref-2.ensures.value,
      same_rank grid.array_shape.items grid.axes.items grid.cut,
      c.in_ok-expect_rank.ensures.same,
      c.len.ensures,
    )
