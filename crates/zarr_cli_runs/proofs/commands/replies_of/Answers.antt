use Rattle.std.proofs.Common.{[], map, sym, ◌∙◌, subst}
use Rattle.zarr_array.specs.Access.{described, is_once}
use Rattle.zarr_array.specs.boxes.Command.{command_of}
use Rattle.zarrs_codec_traits.specs.Views.{options_of}
use Rattle.zarr_cli_runs.specs.Between.{LeavesBetween}
use Rattle.zarr_cli_runs.specs.Commands.{IsRunFault, RepliedBy}
use Rattle.zarr_cli_runs.specs.Status.{ending_of}
use Rattle.zarr_cli_runs.proofs.ChangeLaws.{same_unless_changed}
use Rattle.zarr_cli_runs.proofs.CommandLemmas.{failed_by, costs_so, replied_by, run_fault, run_memory}
use Rattle.zarr_cli_runs.proofs.BetweenLaws.{between_failed}
use Rattle.zarr_cli_runs.proofs.JobLaws.{did_alone}
use Rattle.zarr_cli_runs.proofs.commands.replies_of.Goals as goal

pub returns-in-Ok-clause-did : goal.returns-in-Ok-clause-did
returns-in-Ok-clause-did g c =
    let seen = g.C.ChunkAccess.seen c.args.array.now in
    let options = options_of c.args.options.now in
    let commands = map command_of c.args.commands.now in
    let before = g.S.Store.shown c.args.store.now in
    let now = g.S.Store.shown c.run_commands.new.store in
    let runs = c.in-Ok.ensures.runs in
    did_alone (is_once seen.costs) (described seen) options commands before now
    (g.met.S.Store.counts_fit c.args.store.now).3 _
    (λ held. RepliedBy (described seen) options commands before now held.items)
    (replied_by (described seen) options commands before now c.in-Ok.replies.items runs.answers runs.mended runs.serves
    runs.stored runs.keys runs.undamaged runs.refusals runs.puts)
    runs.refused (same_unless_changed (described seen) options commands _ _ runs.keys) runs.later tt tt
    (λ unseen calm. tt)

pub returns-in-Err-clause-did : goal.returns-in-Err-clause-did
returns-in-Err-clause-did g c =
    let seen = g.C.ChunkAccess.seen c.args.array.now in
    let once = is_once seen.costs in
    let options = options_of c.args.options.now in
    let commands = map command_of c.args.commands.now in
    let before = g.S.Store.shown c.args.store.now in
    let now = g.S.Store.shown c.run_commands.new.store in
    let runs = c.in-Err.ensures.runs in
    let fits = (g.met.S.Store.counts_fit c.args.store.now).3 in
    let error = c.in-Err.error in
    let fails = failed_by seen.costs (described seen) options commands before now error runs.failed
    c.in-Err.ensures.costs in
    did_alone once (described seen) options commands before now fits _
    (λ held. RepliedBy (described seen) options commands before now held.items) tt
    runs.refused (same_unless_changed (described seen) options commands _ _ runs.keys) runs.later
    (subst (λ status. IsRunFault once (described seen) options commands before now status)
    (sym c.session_status.ensures)
    (run_fault once (described seen) options commands before now error.at error.kind fails))
    (subst (λ status. LeavesBetween once (described seen) options [] commands before now (ending_of status))
    (sym c.session_status.ensures)
    (between_failed once (described seen) options commands before now fits error.at error.kind fails))
    (λ unseen calm. c.session_status.ensures
    ∙ run_memory once (described seen) options commands before now error.at error.kind fails unseen calm)

pub returns-in-Ok-clause-costs : goal.returns-in-Ok-clause-costs
returns-in-Ok-clause-costs g c =
    let array = g.C.ChunkAccess.seen c.args.array.now in
    costs_so array.costs (described array) (options_of c.args.options.now) (map command_of c.args.commands.now)
    (g.S.Store.shown c.args.store.now) (g.S.Store.shown c.run_commands.new.store) _ c.in-Ok.ensures.costs
