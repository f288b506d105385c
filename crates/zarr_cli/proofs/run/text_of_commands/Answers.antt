use Rattle.std.proofs.Common.{[], map, subst}
use Rattle.std.proofs.lemmas.Result.{err_from_is_err_and}
use Rattle.zarrs_codec_traits.specs.Prelude.{kind, options_of}
use Rattle.zarr_cli_runs.specs.array.boxes.Command.{command_of}
use Rattle.zarr_cli_runs.specs.lines.Parts.{IsTextOfReplies}
use Rattle.zarr_cli_runs.specs.Job.{job}
use Rattle.zarr_cli.specs.Array.{Replied}
use Rattle.zarr_cli.specs.Steps.{RepliesTo}
use Rattle.zarr_cli.proofs.RunLemmas.{text_did, text_starved}
use Rattle.zarr_cli_runs.proofs.JobLaws.{still_early}
use Rattle.zarr_cli.proofs.run.text_of_commands.Goals as goal

pub returns-in_ok-text_of_replies-in-Ok-clause-did : goal.returns-in_ok-text_of_replies-in-Ok-clause-did
returns-in_ok-text_of_replies-in-Ok-clause-did g c =
    let array = g.A.CommandArray.described c.args.array.now in
    text_did (g.A.CommandArray.costs c.args.array.now) array (options_of c.args.options.now)
    (map command_of c.args.commands.now) (g.S.Store.shown c.args.store.now) (g.S.Store.shown c.replies.new.store)
    c.in-Ok.replies c.in_ok-text_of_replies-in-Ok.field-0 c.in-Ok.ensures.did
    (subst (λ replies. IsTextOfReplies (kind array) replies c.in_ok-text_of_replies-in-Ok.field-0.items)
    c.deref.ensures.value
    (subst (λ k. IsTextOfReplies k c.deref.result.now c.in_ok-text_of_replies-in-Ok.field-0.items)
    c.data_type.ensures.kind
    c.in_ok-text_of_replies-in-Ok.ensures))

pub returns-in_err-text_of_replies-in-Ok-clause-did : goal.returns-in_err-text_of_replies-in-Ok-clause-did
returns-in_err-text_of_replies-in-Ok-clause-did g c =
    let p = err_from_is_err_and c.from_residual.result c.from_residual.ensures.1 in
    rw (p.1, p.2) (text_starved (g.A.CommandArray.costs c.args.array.now) (g.A.CommandArray.described c.args.array.now)
    (options_of c.args.options.now) (map command_of c.args.commands.now) (g.S.Store.shown c.args.store.now)
    (g.S.Store.shown c.replies.new.store)
    c.in-Ok.replies c.in-Ok.ensures.did)

pub returns-in-Err-clause-did : goal.returns-in-Err-clause-did
returns-in-Err-clause-did g c =
    let costs = g.A.CommandArray.costs c.args.array.now in
    let array = g.A.CommandArray.described c.args.array.now in
    let options = options_of c.args.options.now in
    let commands = map command_of c.args.commands.now in
    let before = g.S.Store.shown c.args.store.now in
    let now = g.S.Store.shown c.replies.new.store in
    still_early (job costs.once array options [] commands) (Unit {0}) before now (λ held. Replied costs array options
    commands before now held.items) (λ text. RepliesTo costs array options commands before now text.items)
    c.in-Err.status c.in-Err.ensures.did
