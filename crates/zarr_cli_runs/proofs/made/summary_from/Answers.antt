use Rattle.std.proofs.Common.{true, [], map, ap, ◌∙◌, subst}
use Rattle.std.proofs.lemmas.Result.{err_from_is_err_and}
use Rattle.zarrs_codec_traits.specs.Prelude.{options_of}
use Rattle.zarr_array.specs.OpenArray.{described_array}
use Rattle.zarr_array.specs.boxes.Command.{command_of}
use Rattle.zarr_cli_runs.specs.Job.{job, Did}
use Rattle.zarr_cli_runs.specs.Made.{SumsAll}
use Rattle.zarr_cli_runs.specs.MadeCommands.{made_commands}
use Rattle.zarr_cli_runs.proofs.JobLaws.{did_starved}
use Rattle.zarr_cli_runs.proofs.made.summary_from.Goals as goal

pub returns-in_err-commands : goal.returns-in_err-commands
returns-in_err-commands g c =
    let array = described_array c.args.array.now in
    let options = options_of c.args.options.now in
    let commands = made_commands c.args.number in
    let store = g.S.Store.shown c.args.store.now in
    let p = err_from_is_err_and c.from_residual.result c.from_residual.ensures.1 in
    rw (p.1, p.2) (did_starved true array options commands ⊥ store
    (λ text. SumsAll array options commands store store text.items))

pub returns : goal.returns
returns g c =
    let array = described_array c.args.array.now in
    let options = options_of c.args.options.now in
    let before = g.S.Store.shown c.args.store.now in
    let now = g.S.Store.shown c.summary_of_commands.new.store in
    subst (λ commands. Did (job true array options [] commands) ⊥ before now c.summary_of_commands.result
    (λ text. SumsAll array options commands before now text.items))
    (ap (map command_of) c.deref.ensures.value ∙ c.in_ok-commands.ensures) c.summary_of_commands.ensures
