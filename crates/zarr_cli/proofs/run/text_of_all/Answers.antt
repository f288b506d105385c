use Rattle.std.proofs.Common.{◌≡◌, false, [], map}
use Rattle.zarr_cli_runs.specs.array.boxes.Command.{command_of}
use Rattle.zarr_cli.specs.Status.{settings_view}
use Rattle.zarr_cli_runs.specs.Job.{job}
use Rattle.zarr_cli.specs.Steps.{RepliesTo, PrintsAll}
use Rattle.zarr_cli.proofs.RunLemmas.{all_did, dump_failed}
use Rattle.zarr_cli_runs.proofs.JobLaws.{still_early}
use Rattle.zarr_cli.proofs.run.text_of_all.Goals as goal

pub returns-in-Ok-push_dump : goal.returns-in-Ok-push_dump
returns-in-Ok-push_dump g c =
    all_did (g.A.CommandArray.costs c.args.array.now) (g.A.CommandArray.described c.args.array.now)
    (settings_view c.args.words.now) (map command_of c.args.commands.now)
    (g.S.Store.shown c.args.store.now) (g.S.Store.shown c.text_of_commands.new.store)
    (g.S.Store.shown c.push_dump.new.store) c.in-Ok.text c.in-Ok.ensures.did
    c.push_dump.ensures.reads.same c.push_dump.ensures.still c.push_dump.ensures.reads.later c.push_dump.new.text
    c.in-Ok-push_dump.ensures.dumped

pub returns-in-Err-push_dump : goal.returns-in-Err-push_dump
returns-in-Err-push_dump g c =
    dump_failed (g.A.CommandArray.costs c.args.array.now) (g.A.CommandArray.described c.args.array.now)
    (settings_view c.args.words.now) (map command_of c.args.commands.now)
    (g.S.Store.shown c.args.store.now) (g.S.Store.shown c.text_of_commands.new.store)
    (g.S.Store.shown c.push_dump.new.store) c.in-Ok.text c.in-Ok.ensures.did
    c.push_dump.ensures.reads.same c.push_dump.ensures.still c.push_dump.ensures.reads.later c.in-Err-push_dump.status
    c.in-Err-push_dump.ensures.reads.fault

pub returns-in-Err : goal.returns-in-Err
returns-in-Err g c =
    let costs = g.A.CommandArray.costs c.args.array.now in
    let array = g.A.CommandArray.described c.args.array.now in
    let settings = settings_view c.args.words.now in
    let commands = map command_of c.args.commands.now in
    let before = g.S.Store.shown c.args.store.now in
    let now = g.S.Store.shown c.text_of_commands.new.store in
    still_early (job costs.once array settings.options [] commands) (settings.dump ≡ false) before now
    (λ text. RepliesTo costs array settings.options commands before now text.items)
    (λ text. PrintsAll costs array settings commands before now text.items)
    c.in-Err.status c.in-Err.ensures.did
