use Rattle.std.proofs.Common.{rules, [], ◌∷◌}
use Rattle.std.proofs.lemmas.Result.{err_from_is_err_and}
use Rattle.zarr_model.specs.Prelude.{read}
use Rattle.zarrs_codec_traits.specs.Prelude.{region, options_of, raw_of}
use Rattle.zarr_array.specs.Access.{described}
use Rattle.zarr_array.proofs.RunsLaws.{ran_gives, failed_gives}
use Rattle.zarr_array.proofs.ReadCommand.{read-fails}
use Rattle.zarr_array.proofs.CostLaws.{read_costs, read_stops}
use Rattle.zarr_array.proofs.BytesLaws.{bytes-read}
use Rattle.zarr_array.proofs.commands.run_read.Goals as goal

pub returns-in_err-elements-clause-runs : goal.returns-in_err-elements-clause-runs
returns-in_err-elements-clause-runs g c =
    let p = err_from_is_err_and c.from_residual.result c.from_residual.ensures.1 in
    rw (p.1, p.2) (failed_gives (described (g.C.ChunkAccess.seen c.args.array.now)) (options_of c.args.options.now)
    (g.met.C.ChunkAccess.served c.args.array.now).covers ((g.met.C.ChunkAccess.served c.args.array.now).sound
    (options_of c.args.options.now)) (read (region c.args.subset.now) ∷ []) (g.S.Store.shown c.args.store.now)
    (g.S.Store.shown c.read_elements.new.store) _ _
    (read-fails (g.C.ChunkAccess.seen c.args.array.now) (g.met.C.ChunkAccess.served c.args.array.now)
    (options_of c.args.options.now) (region c.args.subset.now) (g.S.Store.shown c.args.store.now)
    (g.S.Store.shown c.read_elements.new.store)
    _ (search rules) c.in_err-elements.ensures.read (g.met.S.Store.kept_puts c.args.store.now c.read_elements.new.store
    c.read_elements.ensures.kept) (g.met.S.Store.counts_fit c.args.store.now).3)
    (search rules) (search rules) c.in_err-elements.ensures.read.later)

pub returns-clause-runs : goal.returns-clause-runs
returns-clause-runs g c = ran_gives (described (g.C.ChunkAccess.seen c.args.array.now)) (options_of c.args.options.now)
    (g.met.C.ChunkAccess.served c.args.array.now).covers ((g.met.C.ChunkAccess.served c.args.array.now).sound
    (options_of c.args.options.now)) (read (region c.args.subset.now) ∷ []) (g.S.Store.shown c.args.store.now)
    (g.S.Store.shown c.read_elements.new.store) _
    (bytes-read (g.C.ChunkAccess.seen c.args.array.now) (g.met.C.ChunkAccess.served c.args.array.now)
    (options_of c.args.options.now) (region c.args.subset.now) (g.S.Store.shown c.args.store.now)
    (g.S.Store.shown c.read_elements.new.store) (raw_of c.in_ok-elements.elements)
    (search rules) c.in_ok-elements.ensures.read (g.met.S.Store.kept_puts c.args.store.now c.read_elements.new.store
    c.read_elements.ensures.kept) (g.met.S.Store.counts_fit c.args.store.now).3)

pub returns-clause-costs : goal.returns-clause-costs
returns-clause-costs g c =
    let array = g.C.ChunkAccess.seen c.args.array.now in
    read_costs (described array) (options_of c.args.options.now) array.costs (region c.args.subset.now)
    (g.S.Store.shown c.args.store.now) (g.S.Store.shown c.read_elements.new.store) _
    (search rules) c.in_ok-elements.ensures.read.read.paid

pub returns-in_err-elements-clause-costs : goal.returns-in_err-elements-clause-costs
returns-in_err-elements-clause-costs g c =
    let p = err_from_is_err_and c.from_residual.result c.from_residual.ensures.1 in
    let array = g.C.ChunkAccess.seen c.args.array.now in
    rw (p.1, p.2) (read_stops (described array) (options_of c.args.options.now) array.costs (region c.args.subset.now) _
    (g.S.Store.shown c.args.store.now) (g.S.Store.shown c.read_elements.new.store) _ (search rules)
    c.in_err-elements.ensures.read.paid)
