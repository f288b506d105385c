use Rattle.std.proofs.Common.{ap, ◌∙◌}
use Rattle.zarr_cli_runs.specs.MadeCommands.{commands_from}
use Rattle.zarr_cli_runs.proofs.MadeCommandLemmas.{all_made}
use Rattle.zarr_cli_runs.proofs.making_commands.made_commands.Goals as goal

pub returns : goal.returns
returns c = c.in_ok-commands.ensures ∙ (ap (commands_from 300 1) c.new-generator.ensures ∙ all_made c.args.number)
