use Rattle.std.proofs.Common.{rules, ◌≡◌, ℕ, List, [], ◌∷◌, IfErr, sym, subst}
use Rattle.zarrs_codec_traits.specs.Prelude.{erase, options_of}
use Rattle.zarr_array.specs.Tells.{TellsOfSome}
use Rattle.zarr_array_boxes.specs.Command.{command_of, region_read}
use Rattle.zarr_array.specs.Ended.{ended_step}
use Rattle.zarr_array.specs.Access.{described}
use Rattle.zarr_array.specs.Costs.{CostsOn}
use Rattle.zarr_array_boxes.specs.declared.command.Command.{Command}
use Rattle.zarr_array.proofs.commands.run_command.Goals as goal

pub returns-in-Read-clause-costs : goal.returns-in-Read-clause-costs
returns-in-Read-clause-costs g c =
    subst (λ (k : Command). CostsOn (g.C.ChunkAccess.seen c.args.array.now).costs
    (described (g.C.ChunkAccess.seen c.args.array.now)) (options_of c.args.options.now) (command_of k
    ∷ []) (g.S.Store.shown c.args.store.now) (g.S.Store.shown c.run_read.new.store) (ended_step c.run_read.result))
    (sym c.in-Read.is) c.run_read.ensures.costs

pub returns-in-Write-clause-costs : goal.returns-in-Write-clause-costs
returns-in-Write-clause-costs g c =
    subst (λ (k : Command). CostsOn (g.C.ChunkAccess.seen c.args.array.now).costs
    (described (g.C.ChunkAccess.seen c.args.array.now)) (options_of c.args.options.now) (command_of k
    ∷ []) (g.S.Store.shown c.args.store.now) (g.S.Store.shown c.run_write.new.store) (ended_step c.run_write.result))
    (sym c.in-Write.is) c.run_write.ensures.costs

pub returns-in-Erase-clause-costs : goal.returns-in-Erase-clause-costs
returns-in-Erase-clause-costs g c =
    let given : c.deref.result.now ≡ c.in-Erase.chunk_indices.items = search rules in
    let costs :
    CostsOn (g.C.ChunkAccess.seen c.args.array.now).costs (described (g.C.ChunkAccess.seen c.args.array.now))
    (options_of c.args.options.now) (erase c.in-Erase.chunk_indices.items ∷ []) (g.S.Store.shown c.args.store.now)
    (g.S.Store.shown c.run_erase.new.store) (ended_step c.run_erase.result) =
    subst (λ (n : List ℕ). CostsOn (g.C.ChunkAccess.seen c.args.array.now).costs (described (g.C.ChunkAccess.seen
    c.args.array.now)) (options_of c.args.options.now) (erase n ∷ []) (g.S.Store.shown c.args.store.now)
    (g.S.Store.shown c.run_erase.new.store) (ended_step c.run_erase.result)) given c.run_erase.ensures.costs in
    subst (λ (k : Command). CostsOn (g.C.ChunkAccess.seen c.args.array.now).costs
    (described (g.C.ChunkAccess.seen c.args.array.now)) (options_of c.args.options.now) (command_of k
    ∷ []) (g.S.Store.shown c.args.store.now) (g.S.Store.shown c.run_erase.new.store) (ended_step c.run_erase.result))
    (sym c.in-Erase.is) costs

pub returns-in-Read-clause-told : goal.returns-in-Read-clause-told
returns-in-Read-clause-told g c =
    subst (λ (k : Command). IfErr c.run_read.result (λ error. TellsOfSome (region_read (command_of k))
    (described (g.C.ChunkAccess.seen c.args.array.now)) (g.C.ChunkAccess.seen c.args.array.now).says
    (options_of c.args.options.now) (g.S.Store.shown c.run_read.new.store) error.kind))
    (sym c.in-Read.is) c.run_read.ensures.told

pub returns-in-Write-clause-told : goal.returns-in-Write-clause-told
returns-in-Write-clause-told g c =
    subst (λ (k : Command). IfErr c.run_write.result (λ error. TellsOfSome (region_read (command_of k))
    (described (g.C.ChunkAccess.seen c.args.array.now)) (g.C.ChunkAccess.seen c.args.array.now).says
    (options_of c.args.options.now) (g.S.Store.shown c.run_write.new.store) error.kind))
    (sym c.in-Write.is) c.run_write.ensures.told
