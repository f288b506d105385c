use Rattle.zarr_array.specs.Access.{described}
use Rattle.zarr_array.proofs.RoomLaws.{room}
use Rattle.zarr_array.proofs.place.place_of.Goals as goal

pub chunk_box-requires-clause-fits : goal.chunk_box-requires-clause-fits
chunk_box-requires-clause-fits g c =
    let served = g.met.C.ChunkAccess.served c.args.array.now in
    rw (c.grid.ensures.grid, c.as_slice.ensures)
    ((room (described (g.C.ChunkAccess.seen c.args.array.now)) served c.args.indices.items c.requires).fits)
