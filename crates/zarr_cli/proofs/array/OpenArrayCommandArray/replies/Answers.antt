use Rattle.std.proofs.Common.{true, [], map, ap, subst}
use Rattle.zarr_cli_runs.specs.array.boxes.Command.{command_of}
use Rattle.zarr_cli_runs.specs.array.parts.Document.{describe}
use Rattle.zarr_cli_runs.specs.array.parts.Parts.{documented_parts}
use Rattle.zarr_cli_runs.specs.array.Access.{by_chunk}
use Rattle.zarr_cli_runs.specs.array.Plain.{is_bytes_alone}
use Rattle.zarr_cli_runs.specs.Commands.{CostsRun}
use Rattle.zarrs_codec_traits.specs.Views.{options_of}
use Rattle.zarr_cli_runs.specs.Job.{job, Did}
use Rattle.zarr_cli.specs.Array.{Replied}
use Rattle.zarr_cli.specs.Run.{open_costs}
use Rattle.zarr_cli.proofs.RunLemmas.{array_did}
use Rattle.zarr_cli.proofs.array.OpenArrayCommandArray.replies.Goals as goal

pub returns-clause-did : goal.returns-clause-did
returns-clause-did g c =
    let options = options_of c.args.options.now in
    let commands = map command_of c.args.commands.now in
    let before = g.S.Store.shown c.args.store.now in
    let now = g.S.Store.shown c.replies_of.new.store in
    subst (λ document. Did (job true (describe document) options [] commands) (Unit {0}) before now c.replies_of.result
    (λ held. Replied (open_costs document) (describe document) options commands before now held.items))
    (ap documented_parts c.parts.ensures)
    (array_did (open_costs (documented_parts c.parts.result.now)) (describe (documented_parts c.parts.result.now))
    options commands before now
    (CostsRun (by_chunk (is_bytes_alone (documented_parts c.parts.result.now)))
    (describe (documented_parts c.parts.result.now)) options commands before now)
    (λ paid puts. record { asks = paid.asks; puts = puts; taken = paid.taken })
    c.replies_of.result c.replies_of.ensures.costs c.replies_of.ensures.did)
