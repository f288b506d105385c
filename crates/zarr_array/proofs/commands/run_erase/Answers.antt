use Rattle.std.proofs.Common.{rules, [], ◌∷◌, None, subst}
use Rattle.std.proofs.lemmas.Result.{err_from_is_err_and}
use Rattle.zarrs_codec_traits.specs.Prelude.{erase, PutsKey, MayPutKey, options_of}
use Rattle.zarr_array.specs.Access.{described}
use Rattle.zarr_array.proofs.RunsLaws.{ran_gives, failed_gives}
use Rattle.zarr_array.proofs.CostLaws.{erase_costs, erase_stops, starved_costs}
use Rattle.zarr_array.proofs.EraseLaws.{erase-ran, erase-fails, erase-starved, erase-keys}
use Rattle.zarr_array.proofs.commands.run_erase.Goals as goal

pub returns-in_err-key-clause-runs : goal.returns-in_err-key-clause-runs
returns-in_err-key-clause-runs g c =
    let p = err_from_is_err_and c.from_residual.result c.from_residual.ensures.1 in
    rw (p.1, p.2) (failed_gives (described (g.C.ChunkAccess.seen c.args.array.now)) (options_of c.args.options.now)
    (g.met.C.ChunkAccess.served c.args.array.now).covers
    ((g.met.C.ChunkAccess.served c.args.array.now).sound (options_of c.args.options.now))
    (erase c.args.chunk_indices.now ∷ []) (g.S.Store.shown c.args.store.now) (g.S.Store.shown c.args.store.now) _ _
    (erase-starved (described (g.C.ChunkAccess.seen c.args.array.now))
    (g.met.C.ChunkAccess.served c.args.array.now).covers (options_of c.args.options.now)
    ((g.met.C.ChunkAccess.served c.args.array.now).sound (options_of c.args.options.now)) c.args.chunk_indices.now
    (g.S.Store.shown c.args.store.now) (g.met.S.Store.counts_fit c.args.store.now).3)
    (search rules) (search rules) (search rules))

pub returns-in-Ok-clause-runs : goal.returns-in-Ok-clause-runs
returns-in-Ok-clause-runs g c = ran_gives (described (g.C.ChunkAccess.seen c.args.array.now))
    (options_of c.args.options.now) (g.met.C.ChunkAccess.served c.args.array.now).covers
    ((g.met.C.ChunkAccess.served c.args.array.now).sound (options_of c.args.options.now))
    (erase c.args.chunk_indices.now ∷ []) (g.S.Store.shown c.args.store.now) (g.S.Store.shown c.erase.new.self) _
    (erase-ran (described (g.C.ChunkAccess.seen c.args.array.now)) (g.met.C.ChunkAccess.served c.args.array.now).covers
    (options_of c.args.options.now) ((g.met.C.ChunkAccess.served c.args.array.now).sound
    (options_of c.args.options.now)) c.args.chunk_indices.now (search rules)
    (g.S.Store.shown c.args.store.now) (g.S.Store.shown c.erase.new.self)
    (subst (λ key. PutsKey (g.S.Store.shown c.args.store.now).content (g.S.Store.shown c.erase.new.self).content key
    None) c.in_ok-key.ensures c.in-Ok.ensures.puts.ok)
    c.erase.ensures.puts.puts c.erase.ensures.puts.cause.later)

pub returns-in-Err-Failed-clause-runs : goal.returns-in-Err-Failed-clause-runs
returns-in-Err-Failed-clause-runs g c = failed_gives (described (g.C.ChunkAccess.seen c.args.array.now))
    (options_of c.args.options.now) (g.met.C.ChunkAccess.served c.args.array.now).covers
    ((g.met.C.ChunkAccess.served c.args.array.now).sound (options_of c.args.options.now))
    (erase c.args.chunk_indices.now ∷ []) (g.S.Store.shown c.args.store.now) (g.S.Store.shown c.erase.new.self) _ _
    (erase-fails (described (g.C.ChunkAccess.seen c.args.array.now)) (g.met.C.ChunkAccess.served
    c.args.array.now).covers (options_of c.args.options.now) ((g.met.C.ChunkAccess.served c.args.array.now).sound
    (options_of c.args.options.now)) c.args.chunk_indices.now (search rules)
    (g.S.Store.shown c.args.store.now) (g.S.Store.shown c.erase.new.self)
    (subst (λ key. MayPutKey (g.S.Store.shown c.args.store.now).content (g.S.Store.shown c.erase.new.self).content key
    None) c.in_ok-key.ensures c.in-Err-Failed.ensures.puts.failed)
    (search rules) c.erase.ensures.puts.puts)
    (search rules)
    (erase-keys (described (g.C.ChunkAccess.seen c.args.array.now)) (g.met.C.ChunkAccess.served c.args.array.now).covers
    (options_of c.args.options.now) ((g.met.C.ChunkAccess.served c.args.array.now).sound
    (options_of c.args.options.now)) c.args.chunk_indices.now (search rules)
    (g.S.Store.shown c.args.store.now).content (g.S.Store.shown c.erase.new.self).content
    (subst (λ key. MayPutKey (g.S.Store.shown c.args.store.now).content (g.S.Store.shown c.erase.new.self).content key
    None) c.in_ok-key.ensures c.in-Err-Failed.ensures.puts.failed)) c.erase.ensures.puts.cause.later

pub returns-in-Ok-clause-costs : goal.returns-in-Ok-clause-costs
returns-in-Ok-clause-costs g c =
    let array = g.C.ChunkAccess.seen c.args.array.now in
    erase_costs (described array) (options_of c.args.options.now) array.costs c.args.chunk_indices.now
    (g.S.Store.shown c.args.store.now) (g.S.Store.shown c.erase.new.self) _ (search rules)
    c.erase.ensures.puts.asks c.erase.ensures.puts.taken (g.met.S.Store.counts_fit c.args.store.now).1
    (g.met.S.Store.counts_fit c.args.store.now).2

pub returns-in-Err-Failed-clause-costs : goal.returns-in-Err-Failed-clause-costs
returns-in-Err-Failed-clause-costs g c =
    let array = g.C.ChunkAccess.seen c.args.array.now in
    erase_stops (described array) (options_of c.args.options.now) array.costs c.args.chunk_indices.now
    (g.S.Store.shown c.args.store.now) (g.S.Store.shown c.erase.new.self) _
    c.erase.ensures.puts.asks (g.met.S.Store.counts_fit c.args.store.now).1

pub returns-in_err-key-clause-costs : goal.returns-in_err-key-clause-costs
returns-in_err-key-clause-costs g c =
    let p = err_from_is_err_and c.from_residual.result c.from_residual.ensures.1 in
    let array = g.C.ChunkAccess.seen c.args.array.now in
    rw (p.1, p.2) (starved_costs (described array) (options_of c.args.options.now) array.costs
    (erase c.args.chunk_indices.now) (g.S.Store.shown c.args.store.now) (g.met.S.Store.counts_fit c.args.store.now).1)
