use Rattle.std.proofs.Common.{◌≡◌, false, ℕ, [], map, length, Vec, Err, sym, ap, ◌∙◌, subst}
use Rattle.std.specs.declared.alloc.Global.{Global}
use Rattle.zarr_model.specs.Prelude.{with_keys, counted}
use Rattle.zarr_cli_runs.specs.array.boxes.Command.{command_of}
use Rattle.zarr_cli_runs.specs.lines.Parts.{entry_view}
use Rattle.zarr_cli.specs.Status.{settings_view}
use Rattle.zarr_cli.specs.Lines.{IsKeyOf, with_entries}
use Rattle.zarr_cli.specs.Run.{SetsPart}
use Rattle.zarr_cli_runs.specs.Job.{job, Did}
use Rattle.zarr_cli.specs.Steps.{PrintsAll}
use Rattle.zarr_cli.proofs.RunLemmas.{behind_did, keys_ended}
use Rattle.zarr_cli.proofs.run.run_parsed.Goals as goal

pub returns-in-Ok : goal.returns-in-Ok
returns-in-Ok g c =
    let costs = g.A.CommandArray.costs c.args.array.now in
    let array = g.A.CommandArray.described c.args.array.now in
    let settings = settings_view c.args.words.now in
    let entries = map entry_view c.args.parsed.now.entries.items in
    let before = g.S.Store.shown c.args.store.now in
    let mid = g.S.Store.shown c.set_entries.new.store in
    let now = g.S.Store.shown c.text_of_all.new.store in
    behind_did costs array settings entries (map command_of c.args.parsed.now.commands.items) before mid
    (c.in-Ok.ensures.set ∙ ap (λ entries. with_keys (map entry_view entries) before.content) c.deref.ensures.value)
    c.in-Ok.ensures.asks c.in-Ok.ensures.taken
    (c.in-Ok.ensures.puts ∙ ap (λ entries. counted before.puts (length (map entry_view entries))) c.deref.ensures.value)
    c.in-Ok.ensures.cause.later now c.text_of_all.result
    (λ key free. c.set_entries.ensures.elsewhere key
    (subst (λ entries. ¬ IsKeyOf (map entry_view entries) key) (sym c.deref.ensures.value) free))
    (subst (λ commands. Did (job costs.once array settings.options [] (map command_of commands)) (settings.dump ≡
    false) mid now c.text_of_all.result (λ t. PrintsAll costs array settings (map command_of commands) mid now t.items))
    c.deref-in-Ok.ensures.value c.text_of_all.ensures)

pub returns-in-Err : goal.returns-in-Err
returns-in-Err g c =
    let costs = g.A.CommandArray.costs c.args.array.now in
    let array = g.A.CommandArray.described c.args.array.now in
    let settings = settings_view c.args.words.now in
    let entries = map entry_view c.args.parsed.now.entries.items in
    let commands = map command_of c.args.parsed.now.commands.items in
    let before = g.S.Store.shown c.args.store.now in
    let now = g.S.Store.shown c.set_entries.new.store in
    subst (λ status. Did {T = Vec ℕ Global} (job costs.once array settings.options entries commands) (settings.dump ≡
    false) before now (Err status) (λ t. PrintsAll costs array settings commands (with_entries entries before) now
    t.items)) (sym c.storage_status.ensures)
    (keys_ended costs array settings entries commands before now
    (subst (λ entries. SetsPart (map entry_view entries) before.content now.content) c.deref.ensures.value
    c.in-Err.ensures.failed)
    c.set_entries.ensures.asks c.set_entries.ensures.taken c.set_entries.ensures.cause.later
    (λ key free. c.set_entries.ensures.elsewhere key
    (subst (λ entries. ¬ IsKeyOf (map entry_view entries) key) (sym c.deref.ensures.value) free))
    c.in-Err.error c.in-Err.ensures.plain c.in-Err.ensures.cause.failed)
