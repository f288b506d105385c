use Rattle.std.proofs.Common.{◌+◌, ◌*◌, ◌^◌, ◌<◌, length, IsSome, sym, ap, ◌∙◌, subst, subst₂}
use Rattle.std.proofs.lemmas.Result.{err_from_is_err_and}
use Rattle.zarrs_codec_traits.specs.Prelude.{count, meaning, fixed_size, region, size_in, raw_of, kind_seen, options_of}
use Rattle.zarr_array.specs.Fetch.{chunk_list}
use Rattle.zarr_array.specs.Store.{StoresElements}
use Rattle.zarr_array.specs.Access.{described}
use Rattle.zarr_array.proofs.WriteSteps.{unfetched, copied_so, is_written, not_written}
use Rattle.zarr_array.proofs.RoomLaws.{room}
use Rattle.zarr_array.proofs.region_chunks.RegionChunks.write_at.Goals as goal

pub put_overlap-requires-clause-rank : goal.put_overlap-requires-clause-rank
put_overlap-requires-clause-rank g c = ap length c.requires.place.at.lies ∙ sym c.requires.place.rank

pub put_overlap-requires-clause-chunk : goal.put_overlap-requires-clause-chunk
put_overlap-requires-clause-chunk g c =
    let served = g.met.C.ChunkAccess.served c.args.self.now.array.now in
    let has = room (described (g.C.ChunkAccess.seen c.args.self.now.array.now)) served c.args.place.now.indices.items
    c.requires.place.at.is_chunk in record {
      means = subst₂ (λ r k. IsSome (meaning k (count r) (raw_of c.in_ok-elements.elements)))
          (sym c.requires.place.at.lies) (sym c.data_type-data_type.ensures.kind)
          c.in_ok-elements.ensures.fetched.1.mean.means;
      few = subst (λ r. count r + 1 < 2 ^ 64) (sym c.requires.place.at.lies) has.few;
      room = subst₂ (λ r k. count r * size_in (fixed_size k) < 2 ^ 64) (sym c.requires.place.at.lies)
          (sym c.data_type-data_type.ensures.kind) has.bytes;
    }

pub put_overlap-requires-clause-bytes : goal.put_overlap-requires-clause-bytes
put_overlap-requires-clause-bytes g c =
    let over = region c.args.self.now.subset.now in record {
      means = subst (λ k. IsSome (meaning k (count over) (raw_of c.args.bytes.now)))
          (sym c.data_type-data_type.ensures.kind) c.requires.writable.means;
      few = c.requires.writable.few;
      room = subst (λ k. count over * size_in (fixed_size k) < 2 ^ 64)
          (sym c.data_type-data_type.ensures.kind) c.requires.writable.room;
    }

pub returns-in-Ok : goal.returns-in-Ok
returns-in-Ok g c =
    let met = c.args.self.now in
    let array = g.C.ChunkAccess.seen met.array.now in
    let chunk = c.args.place.now.indices.items in
    let options = options_of c.args.options.now in
    let bytes = raw_of c.args.bytes.now in
    let value = raw_of c.in_ok-elements.elements in
    let list = raw_of c.in_ok-replaced.replaced in
    is_written array options (region met.subset.now) chunk bytes c.args.place.now.key value list
    (g.S.Store.shown c.args.store.now) (g.S.Store.shown c.fetch_elements.new.store)
    (g.S.Store.shown c.store_elements.new.store)
    c.requires.place.at.key c.in_ok-elements.ensures.fetched.1 c.in_ok-elements.ensures.fetched.0
    c.in_ok-elements.ensures.paid
    (copied_so array (region met.subset.now) chunk (kind_seen c.data_type-data_type.result.now)
    (region c.args.place.now.subset) c.data_type-data_type.ensures.kind c.requires.place.at.lies
    bytes value list c.in_ok-replaced.ensures.copied)
    _ (subst (StoresElements array options chunk (chunk_list array chunk list) c.args.place.now.key
    (g.S.Store.shown c.fetch_elements.new.store) (g.S.Store.shown c.store_elements.new.store))
    c.in-Ok.is c.store_elements.ensures)

pub returns-in-Err : goal.returns-in-Err
returns-in-Err g c =
    let met = c.args.self.now in
    let array = g.C.ChunkAccess.seen met.array.now in
    let chunk = c.args.place.now.indices.items in
    let options = options_of c.args.options.now in
    let bytes = raw_of c.args.bytes.now in
    let value = raw_of c.in_ok-elements.elements in
    let list = raw_of c.in_ok-replaced.replaced in
    not_written array options (region met.subset.now) chunk bytes c.args.place.now.key value list
    (g.S.Store.shown c.args.store.now) (g.S.Store.shown c.fetch_elements.new.store)
    (g.S.Store.shown c.store_elements.new.store)
    c.requires.place.at.key c.in_ok-elements.ensures.fetched.1 c.in_ok-elements.ensures.fetched.0
    c.in_ok-elements.ensures.paid
    (copied_so array (region met.subset.now) chunk (kind_seen c.data_type-data_type.result.now)
    (region c.args.place.now.subset) c.data_type-data_type.ensures.kind c.requires.place.at.lies
    bytes value list c.in_ok-replaced.ensures.copied)
    c.in-Err.error (subst (StoresElements array options chunk (chunk_list array chunk list)
    c.args.place.now.key (g.S.Store.shown c.fetch_elements.new.store) (g.S.Store.shown c.store_elements.new.store))
    c.in-Err.is c.store_elements.ensures)

pub returns-in_err-elements : goal.returns-in_err-elements
returns-in_err-elements g c =
    let p = err_from_is_err_and c.from_residual.result c.from_residual.ensures.1 in
    let met = c.args.self.now in
    let array = g.C.ChunkAccess.seen met.array.now in
    rw (p.1, p.2) (unfetched array (options_of c.args.options.now) (region met.subset.now)
    c.args.place.now.indices.items (raw_of c.args.bytes.now)
    (g.S.Store.shown c.args.store.now) (g.S.Store.shown c.fetch_elements.new.store) _
    c.in_err-elements.ensures.fetched)
