-- What an array promises of the commands that it runs.
use Rattle.std.specs.Prelude.{List, map}
use Rattle.std.specs.List.{AllZip}
use Rattle.zarr_model.specs.Prelude.{Element, Array, Options, Shown, Command, Description, kind, replies, Matches}
use Rattle.zarr_model.specs.Prelude.{LeavesArray, SeesNoDamage, RefusesRight}
use Rattle.zarr_cli_runs.specs.array.boxes.Command.{answer_of}
use Rattle.zarr_cli_runs.specs.array.Stored.{StoresForAll}
use Rattle.zarr_cli_runs.specs.array.boxes.declared.command.Reply.{Reply}
use Rattle.zarr_cli_runs.specs.Commands.{MeansUndamaged, LeavesUndamaged}
use Rattle.zarr_cli.specs.Run.{RunCosts, counts_of}

-- commands were run over a store, and these are their replies
pub record Replied (costs : RunCosts) (description : Description) (options : Options)
    (commands : List Command) (before now : Shown) (held : List Reply) : Type 0 where
  pub matched : (array : Array Element) →
      MeansUndamaged description options commands before.content array →
      AllZip (Matches (kind description)) (map answer_of held) (replies description commands array)
  pub mended : LeavesUndamaged description options commands before.content now.content
  pub left : LeavesArray description options commands before.content now.content
  pub stored : StoresForAll description options commands before.content now.content
  pub undamaged : SeesNoDamage description options commands before.content
  pub refusals : RefusesRight description commands (map answer_of held)
  pub cost : costs.ran options commands before.content (counts_of before) (counts_of now)
