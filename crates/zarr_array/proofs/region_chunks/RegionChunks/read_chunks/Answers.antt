use Rattle.std.proofs.Common.{◌≡◌, ◌<◌, length, arith, subst}
use Rattle.std.proofs.lemmas.Result.{err_from_is_err_and}
use Rattle.zarrs_codec_traits.specs.Prelude.{count, chunks_meeting, region, options_of}
use Rattle.zarr_array_boxes.specs.BoxElements.{list_held}
use Rattle.zarr_array.specs.Access.{described}
use Rattle.zarr_array.specs.RegionChunks.{met_chunk_at}
use Rattle.zarr_array.proofs.MetLaws.{num_met, met_here}
use Rattle.zarr_array.proofs.ReadSteps.{HasReadSome, none_read, one_read, stops_read, all_read}
use Rattle.zarr_array.proofs.region_chunks.RegionChunks.read_chunks.Goals as goal

pub loop-number-init : goal.loop-number-init
loop-number-init g c =
    let met = c.args.self.now in
    let array = g.C.ChunkAccess.seen met.array.now in (
      c.requires.holds,
      none_read array (options_of c.args.options.now) (region met.subset.now) (list_held c.args.elements.now)
          (g.S.Store.shown c.args.store.now) c.requires.as_long
          (g.met.S.Store.counts_fit c.args.store.now).1 (g.met.S.Store.counts_fit c.args.store.now).2,
      g.met.S.Store.kept_self c.args.store.now,
      c.requires.hand,
    )

pub returns-in_err-read_chunk-clause-read : goal.returns-in_err-read_chunk-clause-read
returns-in_err-read_chunk-clause-read g c =
    let p = err_from_is_err_and c.from_residual.result c.from_residual.ensures.1 in
    let met = c.args.self.now in
    let array = g.C.ChunkAccess.seen met.array.now in
    let below : c.loop-number.number < count (region c.args.self.now.chunks) = omega arith in
    rw (p.1, p.2) (stops_read array (options_of c.args.options.now) (region met.subset.now) c.loop-number.number
    (met_chunk_at met c.loop-number.number) (list_held c.loop-number.elements)
    (g.S.Store.shown c.args.store.now) (g.S.Store.shown c.loop-number.store) (g.S.Store.shown c.read_chunk.new.store)
    _ c.in_err-read_chunk.ensures.at
    (met_here array met c.requires.met c.loop-number.number below) c.loop-number.invariant.1
    c.in_err-read_chunk.ensures.read)

pub loop-number-preserved : goal.loop-number-preserved
loop-number-preserved g c =
    let met = c.args.self.now in
    let array = g.C.ChunkAccess.seen met.array.now in
    let below : c.loop-number.number < count (region c.args.self.now.chunks) = omega arith in (
      c.read_chunk.ensures.holds,
      one_read array (options_of c.args.options.now) (region met.subset.now) c.loop-number.number (met_chunk_at met
          c.loop-number.number) (list_held c.loop-number.elements) (list_held c.read_chunk.new.elements)
          (g.S.Store.shown c.args.store.now) (g.S.Store.shown c.loop-number.store)
          (g.S.Store.shown c.read_chunk.new.store)
          (met_here array met c.requires.met c.loop-number.number below) c.loop-number.invariant.1
          c.in_ok-read_chunk.ensures.read,
      g.met.S.Store.kept_twice c.args.store.now c.loop-number.store c.read_chunk.new.store c.loop-number.invariant.2
          c.read_chunk.ensures.kept,
      c.read_chunk.ensures.hand,
    )

pub returns-clause-read : goal.returns-clause-read
returns-clause-read g c =
    let met = c.args.self.now in
    let array = g.C.ChunkAccess.seen met.array.now in
    let num = num_met array met c.requires.met in
    let all : c.loop-number.number ≡
    length (chunks_meeting (described array).grid (region c.args.self.now.subset.now)) = omega (arith, num) in
    all_read array (options_of c.args.options.now) (region met.subset.now) (g.met.C.ChunkAccess.served met.array.now)
    (list_held c.loop-number.elements) (g.S.Store.shown c.args.store.now) (g.S.Store.shown c.loop-number.store)
    c.requires.met.inside
    (subst (λ n. HasReadSome array (options_of c.args.options.now) (region met.subset.now) n
    (list_held c.loop-number.elements) (g.S.Store.shown c.args.store.now) (g.S.Store.shown c.loop-number.store)) all
    c.loop-number.invariant.1)
