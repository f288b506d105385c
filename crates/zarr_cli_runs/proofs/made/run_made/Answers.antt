use Rattle.std.proofs.Common.{true, [], subst}
use Rattle.zarrs_codec_traits.specs.Prelude.{options_of}
use Rattle.zarr_cli_runs.specs.Job.{job, Did}
use Rattle.zarr_cli_runs.specs.Made.{made_array, SumsAll}
use Rattle.zarr_cli_runs.specs.MadeCommands.{made_commands}
use Rattle.zarr_cli_runs.proofs.JobLaws.{did_starved}
use Rattle.zarr_cli_runs.proofs.made.run_made.Goals as goal

pub returns-in-Ok : goal.returns-in-Ok
returns-in-Ok g c =
    let options = options_of c.args.options.now in
    let commands = made_commands c.args.number in
    let before = g.S.Store.shown c.args.store.now in
    let now = g.S.Store.shown c.summary_from.new.store in
    subst (λ array. Did (job true array options [] commands) ⊥ before now c.summary_from.result
    (λ text. SumsAll array options commands before now text.items)) c.in-Ok.ensures.array c.summary_from.ensures

pub returns-in-Err : goal.returns-in-Err
returns-in-Err g c =
    let options = options_of c.args.options.now in
    let commands = made_commands c.args.number in
    let store = g.S.Store.shown c.args.store.now in
    rw c.in-Err.ensures.fault (did_starved true made_array options commands ⊥ store
    (λ text. SumsAll made_array options commands store store text.items))
