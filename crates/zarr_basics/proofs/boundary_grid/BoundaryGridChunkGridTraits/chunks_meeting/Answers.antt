use Rattle.std.proofs.Common.{rules, ◌<◌, length, ap, ◌∙◌, sym}
use Rattle.zarr_model.specs.Prelude.{count}
use Rattle.zarr_model.proofs.RegionLaws.{rank_within}
use Rattle.zarrs_array_subset.specs.ArraySubset.{region}
use Rattle.zarr_basics.specs.Axes.{boundary_chunk_region}
use Rattle.zarr_basics.proofs.AxisFacts.{same_rank}
use Rattle.zarr_basics.proofs.RegionFacts.{chunks_listed}
use Rattle.zarr_basics.proofs.boundary_grid.BoundaryGridChunkGridTraits.chunks_meeting.Goals as goal

pub chunks_of-requires-clause-rank : goal.chunks_of-requires-clause-rank
chunks_of-requires-clause-rank c =
    let grid = c.args.self.now in
    rank_within (region c.args.array_subset.now) grid.array_shape.items c.requires.inside
    ∙ (same_rank grid.array_shape.items grid.axes.items grid.cut ∙ ap length (sym c.deref.ensures.value))

pub returns : goal.returns
returns c =
    let grid = c.args.self.now in
    let subset = region c.args.array_subset.now in
    let some : 0 < count subset = search rules in
    chunks_listed grid.array_shape.items grid.axes.items subset (region c.in_ok-chunks.chunks) grid.cut some
    c.requires.inside
    (c.in_ok-chunks.ensures ∙ ap (λ axes. boundary_chunk_region axes subset) c.deref.ensures.value)
