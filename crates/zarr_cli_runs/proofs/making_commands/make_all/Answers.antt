use Rattle.std.proofs.Common.{arith}
use Rattle.zarr_array.specs.boxes.Command.{command_of}
use Rattle.zarr_cli_runs.specs.MadeCommands.{commands_from}
use Rattle.zarr_cli_runs.proofs.MadeCommandLemmas.{one_more_made}
use Rattle.zarr_cli_runs.proofs.making_commands.make_all.Goals as goal

pub loop-made-preserved : goal.loop-made-preserved
loop-made-preserved c =
    one_more_made command_of c.args.count c.loop-made.made c.loop-made.generator.state
    c.make_command.new.generator.state c.loop-made.commands.items c.push.new.self.items c.in_ok-command.command
    (commands_from c.args.count 1 c.args.generator.now.state) (omega arith) c.loop-made.invariant
    c.in_ok-push.ensures.items c.in_ok-command.ensures.command c.make_command.ensures.state
