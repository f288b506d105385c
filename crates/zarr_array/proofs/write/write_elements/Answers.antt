use Rattle.std.proofs.lemmas.Result.{err_from_is_err_and}
use Rattle.zarrs_codec_traits.specs.Prelude.{region, raw_of, options_of}
use Rattle.zarr_array.proofs.WriteSteps.{starved_writing}
use Rattle.zarr_array.proofs.write.write_elements.Goals as goal

pub returns-in_err-met-clause-written : goal.returns-in_err-met-clause-written
returns-in_err-met-clause-written g c =
    let p = err_from_is_err_and c.from_residual.result c.from_residual.ensures.1 in
    rw (p.1, p.2)
    (starved_writing (g.C.ChunkAccess.seen c.args.array.now) (options_of c.args.options.now) (region c.args.subset.now)
    (raw_of c.args.bytes.now) (g.met.C.ChunkAccess.served c.args.array.now) (g.S.Store.shown c.args.store.now)
    (g.met.S.Store.counts_fit c.args.store.now).1 (g.met.S.Store.counts_fit c.args.store.now).3)
