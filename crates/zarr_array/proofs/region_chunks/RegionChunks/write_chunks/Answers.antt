use Rattle.std.proofs.Common.{◌≡◌, ◌<◌, length, arith}
use Rattle.std.proofs.lemmas.Result.{err_from_is_err_and}
use Rattle.zarrs_codec_traits.specs.Prelude.{count, chunks_meeting, region, raw_of, options_of}
use Rattle.zarr_array.specs.Access.{described}
use Rattle.zarr_array.specs.RegionChunks.{met_chunk_at}
use Rattle.zarr_array.proofs.MetLaws.{num_met, met_here}
use Rattle.zarr_array.proofs.WriteSteps.{none_written, one_written, stops_written, all_written}
use Rattle.zarr_array.proofs.region_chunks.RegionChunks.write_chunks.Goals as goal

pub loop-number-init : goal.loop-number-init
loop-number-init g c =
    let met = c.args.self.now in
    let array = g.C.ChunkAccess.seen met.array.now in (
      none_written array (options_of c.args.options.now) (region met.subset.now) (raw_of c.args.bytes.now)
          (g.met.C.ChunkAccess.served met.array.now) (g.S.Store.shown c.args.store.now) (g.met.S.Store.counts_fit
          c.args.store.now).1 (g.met.S.Store.counts_fit c.args.store.now).2
          (g.met.S.Store.counts_fit c.args.store.now).3,
      c.requires.hand,
    )

pub returns-in_err-write_chunk-clause-written : goal.returns-in_err-write_chunk-clause-written
returns-in_err-write_chunk-clause-written g c =
    let p = err_from_is_err_and c.from_residual.result c.from_residual.ensures.1 in
    let met = c.args.self.now in
    let array = g.C.ChunkAccess.seen met.array.now in
    let below : c.loop-number.number < count (region c.args.self.now.chunks) = omega arith in
    rw (p.1, p.2) (stops_written array (options_of c.args.options.now) (region met.subset.now) (raw_of c.args.bytes.now)
    (g.met.C.ChunkAccess.served met.array.now) c.loop-number.number (met_chunk_at met c.loop-number.number)
    (g.S.Store.shown c.args.store.now) (g.S.Store.shown c.loop-number.store) (g.S.Store.shown c.write_chunk.new.store)
    _ c.in_err-write_chunk.ensures.at
    (met_here array met c.requires.met c.loop-number.number below) c.loop-number.invariant.0
    c.in_err-write_chunk.ensures.written)

pub loop-number-preserved : goal.loop-number-preserved
loop-number-preserved g c =
    let met = c.args.self.now in
    let array = g.C.ChunkAccess.seen met.array.now in
    let below : c.loop-number.number < count (region c.args.self.now.chunks) = omega arith in (
      one_written array (options_of c.args.options.now) (region met.subset.now) (raw_of c.args.bytes.now)
          (g.met.C.ChunkAccess.served met.array.now) c.loop-number.number (met_chunk_at met c.loop-number.number)
          (g.S.Store.shown c.args.store.now) (g.S.Store.shown c.loop-number.store)
          (g.S.Store.shown c.write_chunk.new.store)
          (met_here array met c.requires.met c.loop-number.number below) c.loop-number.invariant.0
          c.in_ok-write_chunk.ensures.written,
      c.write_chunk.ensures.hand,
    )

pub returns-clause-written : goal.returns-clause-written
returns-clause-written g c =
    let met = c.args.self.now in
    let array = g.C.ChunkAccess.seen met.array.now in
    let num = num_met array met c.requires.met in
    let all : c.loop-number.number ≡
    length (chunks_meeting (described array).grid (region c.args.self.now.subset.now)) = omega (arith, num) in
    all_written array (options_of c.args.options.now) (region met.subset.now) (raw_of c.args.bytes.now)
    c.loop-number.number (g.S.Store.shown c.args.store.now) (g.S.Store.shown c.loop-number.store) all
    c.loop-number.invariant.0
