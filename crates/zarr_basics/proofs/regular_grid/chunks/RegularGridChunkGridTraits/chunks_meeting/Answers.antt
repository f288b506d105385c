use Rattle.std.proofs.Common.{rules, ◌<◌, length, ap, ◌∙◌, sym}
use Rattle.zarr_model.specs.Prelude.{count}
use Rattle.zarr_model.proofs.RegionLaws.{rank_within}
use Rattle.zarrs_array_subset.specs.ArraySubset.{region}
use Rattle.zarr_basics.specs.RegularGrid.{chunk_region}
use Rattle.zarr_basics.proofs.RegularLaws.{chunks_listed}
use Rattle.zarr_basics.proofs.regular_grid.chunks.RegularGridChunkGridTraits.chunks_meeting.Goals as goal

pub chunks_of-requires-clause-rank : goal.chunks_of-requires-clause-rank
chunks_of-requires-clause-rank c =
    rank_within (region c.args.array_subset.now) c.args.self.now.array_shape.items c.requires.inside
    ∙ (c.args.self.now.rank ∙ ap length (sym c.deref.ensures.value))

pub returns : goal.returns
returns c =
    let grid = c.args.self.now in
    let subset = region c.args.array_subset.now in
    let some : 0 < count subset = search rules in
    chunks_listed grid.array_shape.items grid.chunk_shape.items subset (region c.in_ok-chunks.chunks) grid.rank some
    c.requires.inside
    (c.in_ok-chunks.ensures ∙ ap (λ lengths. chunk_region lengths subset) c.deref.ensures.value)
