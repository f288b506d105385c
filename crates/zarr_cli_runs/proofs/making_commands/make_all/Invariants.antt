use Rattle.std.proofs.Common.{◌≡◌, ◌+◌, ◌-◌, ◌++◌, map}
use Rattle.zarr_array.specs.boxes.Command.{command_of}
use Rattle.zarr_cli_runs.specs.MadeCommands.{commands_from}
use Rattle.zarr_cli_runs.proofs.making_commands.make_all.Given as goal

abbrev pub invariant-loop-made : goal.invariant-loop-made
invariant-loop-made l =
    map command_of l.commands.items ++ commands_from (l.count - l.made) (l.made + 1) l.generator.state ≡
    commands_from l.count 1 l.initial.generator.state
