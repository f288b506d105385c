use Rattle.std.proofs.Common.{sym, subst}
use Rattle.zarr_model.specs.Prelude.{IsChunk}
use Rattle.zarr_array.specs.Access.{described}
use Rattle.zarr_array.proofs.MetLaws.{met_chunk, placed}
use Rattle.zarr_array.proofs.region_chunks.RegionChunks.place.Goals as goal

pub place_of-requires : goal.place_of-requires
place_of-requires g c =
    let met = c.args.self.now in
    let array = g.C.ChunkAccess.seen met.array.now in
    subst (IsChunk (described array).grid) (sym c.in_ok-indices.ensures)
    (met_chunk array met c.requires.met c.args.number c.requires.below)

pub returns : goal.returns
returns g c =
    let met = c.args.self.now in
    placed (g.C.ChunkAccess.seen met.array.now) met c.requires.met c.args.number c.requires.below
    (g.met.C.ChunkAccess.served met.array.now)
    c.in_ok-indices.indices.items c.in_ok-indices.ensures c.place_of.result c.place_of.ensures
