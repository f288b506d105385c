-- How moving an array ends, and what the sink is given then.
use Rattle.std.specs.Prelude.{◌≡◌, ◌⊎◌, ℕ, List, ◌++◌, codes, Option, Some}
use Rattle.zarr_cli_lines.specs.Text.{line_of}
use Rattle.zarr_cli_runs.specs.Ending.{Ending, ending_code, ending_line, IsBeforeStore}
use Rattle.zarr_cli_runs.specs.Ending as end
use Rattle.zarr_cli_runs.specs.Status.{ending_of}
use Rattle.zarr_rechunk.specs.declared.status.RechunkRefusal.{RechunkRefusal}
use Rattle.zarr_rechunk.specs.declared.status.RechunkRefusal.TheVariants.{ShapeMismatch, DataTypeMismatch, BandTooLarge}
use Rattle.zarr_rechunk.specs.declared.status.RechunkStatus.{RechunkStatus}
use Rattle.zarr_rechunk.specs.declared.status.RechunkStatus.TheVariants.{Cli, Refused}

-- the name of a refusal
abbrev pub refusal_text : RechunkRefusal → List ℕ
refusal_text ShapeMismatch = codes "ShapeMismatch"
refusal_text DataTypeMismatch = codes "DataTypeMismatch"
refusal_text BandTooLarge = codes "BandTooLarge"

-- the endings: those of every program, and a refusal
pub data MoveEnding : Type 0 where
  cli : Ending → MoveEnding
  refused : RechunkRefusal → MoveEnding

-- the status code
abbrev pub move_code : MoveEnding → ℕ
move_code (cli ending) = ending_code ending
move_code (refused why) = 11

-- the one line that stands in place of the keys, as `ending_line` has it
abbrev pub move_line : MoveEnding → Option (List ℕ)
move_line (cli ending) = ending_line ending
move_line (refused why) = Some (line_of (codes "refused " ++ refusal_text why))

-- the ending that a status stands for
abbrev pub move_ending_of : RechunkStatus → MoveEnding
move_ending_of (Cli status) = cli (ending_of status)
move_ending_of (Refused why) = refused why

-- an ending is this one, or want of memory, which is free
abbrev pub IsMoveOrMemory : MoveEnding → MoveEnding → Type 0
IsMoveOrMemory ending called_for = (ending ≡ called_for) ⊎ (ending ≡ cli end.out_of_memory)

-- an ending by the words, the reading or the input, before a store is touched
abbrev pub IsEarlyMove : MoveEnding → Type 0
IsEarlyMove (cli ending) = IsBeforeStore ending
IsEarlyMove (refused why) = ⊥
