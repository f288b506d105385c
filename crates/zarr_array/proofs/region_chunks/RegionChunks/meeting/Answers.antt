use Rattle.std.proofs.Common.{◌∙◌, sym}
use Rattle.zarrs_array_subset.specs.ArraySubset.{region}
use Rattle.zarr_array.specs.Access.{described}
use Rattle.zarr_array.proofs.MetLaws.{none_met}
use Rattle.zarr_array.proofs.region_chunks.RegionChunks.meeting.Goals as goal

pub returns-then-num_elements-eq0 : goal.returns-then-num_elements-eq0
returns-then-num_elements-eq0 g c =
    none_met (described (g.C.ChunkAccess.seen c.args.array.now)).grid (region c.args.subset.now)
    (region c.in_ok-chunks.chunks) c.in_ok-chunks.ensures.listed
    (sym c.num_elements.ensures ∙ c.if-num_elements-eq0.true)
