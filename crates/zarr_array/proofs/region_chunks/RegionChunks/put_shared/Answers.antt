use Rattle.std.proofs.Common.{◌+◌, ◌*◌, ◌^◌, ◌<◌, length, sym, ap, ◌∙◌, subst, subst₂}
use Rattle.zarrs_codec_traits.specs.Prelude.{count, fixed_size, region, size_in}
use Rattle.zarr_array.specs.Access.{described}
use Rattle.zarr_array.proofs.CoverLaws.{overlap_own}
use Rattle.zarr_array.proofs.RoomLaws.{room}
use Rattle.zarr_array.proofs.region_chunks.RegionChunks.put_shared.Goals as goal

pub put-requires-clause-rank : goal.put-requires-clause-rank
put-requires-clause-rank g c =
    ap length c.requires.holds.over ∙ (c.requires.place.rank ∙ ap length (sym c.requires.place.at.lies))

pub put-requires-clause-count : goal.put-requires-clause-count
put-requires-clause-count g c =
    let met = c.args.self.now in
    let array = g.C.ChunkAccess.seen met.array.now in
    let served = g.met.C.ChunkAccess.served met.array.now in
    let chunk = c.args.place.now.indices.items in
    subst (λ r. count r + 1 < 2 ^ 64) (sym c.requires.place.at.lies)
    (room (described (g.C.ChunkAccess.seen c.args.self.now.array.now)) served chunk c.requires.place.at.is_chunk).few

pub put-requires-clause-bytes : goal.put-requires-clause-bytes
put-requires-clause-bytes g c =
    let met = c.args.self.now in
    let array = g.C.ChunkAccess.seen met.array.now in
    let served = g.met.C.ChunkAccess.served met.array.now in
    let chunk = c.args.place.now.indices.items in
    subst₂ (λ r k. count r * size_in (fixed_size k) < 2 ^ 64) (sym c.requires.place.at.lies)
    (sym c.requires.holds.of_kind)
    (room (described (g.C.ChunkAccess.seen c.args.self.now.array.now)) served chunk c.requires.place.at.is_chunk).bytes

pub shared_part-requires : goal.shared_part-requires
shared_part-requires g c = c.requires.place.rank ∙ ap length (sym c.requires.place.at.lies)

pub put_part-requires-clause-part : goal.put_part-requires-clause-part
put_part-requires-clause-part g c =
    overlap_own (region c.args.self.now.subset.now) (region c.args.place.now.subset)
    (sym c.inbounds.ensures ∙ c.if-inbounds.true)
