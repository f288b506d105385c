use Rattle.std.proofs.Common.{rules, [], ◌∷◌, le_trans}
use Rattle.std.proofs.lemmas.Result.{err_from_is_err_and}
use Rattle.zarrs_codec_traits.specs.Prelude.{write, region, raw_of, options_of}
use Rattle.zarr_array.specs.Access.{described}
use Rattle.zarr_array.proofs.RunsLaws.{ran_gives, failed_gives}
use Rattle.zarr_array.proofs.CostLaws.{write_costs, write_stops}
use Rattle.zarr_array.proofs.BytesLaws.{inside, writable, bytes-written, bytes-fail, bytes-fail-keys, bytes-first}
use Rattle.zarr_array.proofs.commands.run_write.Goals as goal

pub write_elements-requires : goal.write_elements-requires
write_elements-requires g c = record {
  hand = c.requires.hand;
  inside = inside (g.C.ChunkAccess.seen c.args.array.now) (region c.args.subset.now) (raw_of c.args.bytes.now)
      (search rules);
  writable = writable (g.C.ChunkAccess.seen c.args.array.now) (region c.args.subset.now) (raw_of c.args.bytes.now)
      (search rules);
}

pub returns-in_err-write_elements-clause-runs : goal.returns-in_err-write_elements-clause-runs
returns-in_err-write_elements-clause-runs g c =
    let p = err_from_is_err_and c.from_residual.result c.from_residual.ensures.1 in
    rw (p.1, p.2) (failed_gives (described (g.C.ChunkAccess.seen c.args.array.now)) (options_of c.args.options.now)
    (g.met.C.ChunkAccess.served c.args.array.now).covers ((g.met.C.ChunkAccess.served c.args.array.now).sound
    (options_of c.args.options.now)) (write (region c.args.subset.now) (raw_of c.args.bytes.now)
    ∷ []) (g.S.Store.shown c.args.store.now) (g.S.Store.shown c.write_elements.new.store) _ _
    (bytes-fail (g.C.ChunkAccess.seen c.args.array.now) (g.met.C.ChunkAccess.served c.args.array.now)
    (options_of c.args.options.now) (region c.args.subset.now) (raw_of c.args.bytes.now) (search rules)
    (g.S.Store.shown c.args.store.now) (g.S.Store.shown c.write_elements.new.store)
    _ c.in_err-write_elements.ensures.written)
    (search rules)
    (bytes-fail-keys (g.C.ChunkAccess.seen c.args.array.now) (g.met.C.ChunkAccess.served c.args.array.now)
    (options_of c.args.options.now) (region c.args.subset.now) (raw_of c.args.bytes.now) (search rules)
    (g.S.Store.shown c.args.store.now) (g.S.Store.shown c.write_elements.new.store)
    _ c.in_err-write_elements.ensures.written)
    (le_trans c.in_err-write_elements.ensures.written.failed.changed.later
    c.in_err-write_elements.ensures.written.failed.later))

pub returns-in_err-write_elements-clause-first : goal.returns-in_err-write_elements-clause-first
returns-in_err-write_elements-clause-first g c =
    let p = err_from_is_err_and c.from_residual.result c.from_residual.ensures.1 in
    rw (p.1, p.2) (bytes-first (g.C.ChunkAccess.seen c.args.array.now) (g.met.C.ChunkAccess.served c.args.array.now)
    (options_of c.args.options.now) (region c.args.subset.now) (raw_of c.args.bytes.now) (search rules)
    (g.S.Store.shown c.args.store.now) (g.S.Store.shown c.write_elements.new.store)
    _ c.in_err-write_elements.ensures.written)

pub returns-clause-runs : goal.returns-clause-runs
returns-clause-runs g c = ran_gives (described (g.C.ChunkAccess.seen c.args.array.now)) (options_of c.args.options.now)
    (g.met.C.ChunkAccess.served c.args.array.now).covers ((g.met.C.ChunkAccess.served c.args.array.now).sound
    (options_of c.args.options.now)) (write (region c.args.subset.now) (raw_of c.args.bytes.now)
    ∷ []) (g.S.Store.shown c.args.store.now) (g.S.Store.shown c.write_elements.new.store) _
    (bytes-written (g.C.ChunkAccess.seen c.args.array.now) (g.met.C.ChunkAccess.served c.args.array.now)
    (options_of c.args.options.now) (region c.args.subset.now) (raw_of c.args.bytes.now) (search rules)
    (g.S.Store.shown c.args.store.now) (g.S.Store.shown c.write_elements.new.store)
    c.in_ok-write_elements.ensures.written)

pub returns-clause-costs : goal.returns-clause-costs
returns-clause-costs g c =
    let array = g.C.ChunkAccess.seen c.args.array.now in
    write_costs (described array) (options_of c.args.options.now) array.costs (region c.args.subset.now)
    (raw_of c.args.bytes.now) (g.S.Store.shown c.args.store.now) (g.S.Store.shown c.write_elements.new.store) _
    (search rules) c.in_ok-write_elements.ensures.written.paid

pub returns-in_err-write_elements-clause-costs : goal.returns-in_err-write_elements-clause-costs
returns-in_err-write_elements-clause-costs g c =
    let p = err_from_is_err_and c.from_residual.result c.from_residual.ensures.1 in
    let array = g.C.ChunkAccess.seen c.args.array.now in
    rw (p.1, p.2) (write_stops (described array) (options_of c.args.options.now) array.costs (region c.args.subset.now)
    (raw_of c.args.bytes.now) _
    (g.S.Store.shown c.args.store.now) (g.S.Store.shown c.write_elements.new.store) _ (search rules)
    c.in_err-write_elements.ensures.written.paid)
