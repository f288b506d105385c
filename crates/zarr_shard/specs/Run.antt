-- A run over a sharded document, and what its lines owe.
use Rattle.std.specs.Prelude.{◌≡◌, ℕ, List}
use Rattle.zarr_model.specs.Prelude.{Content}
use Rattle.zarr_cli_runs.specs.Commands.{IsChangedKey}
use Rattle.zarr_cli_runs.specs.lines.Text.{input_lines}
use Rattle.zarr_cli_runs.specs.Ending.{Ending, done, write_fault, damaged_chunk, store_fault}
use Rattle.zarr_cli.specs.Answers.{AnswersLines, outside}
use Rattle.zarr_cli.specs.Lines.{LinesRun, IsLineKey}
use Rattle.zarr_cli.specs.Seen.{ProgramSeen}
use Rattle.zarr_cli.specs.Words.{Settings}
use Rattle.zarr_array_open.specs.ShardDocument.{ShardDocument}
use Rattle.zarr_shard.specs.Costs.{shard_costs}
use Rattle.zarr_shard.specs.Says.{input_says, runs}
use Rattle.zarr_shard.specs.ShardArray.{describe_sharded}

-- what an input says that is in form: its document, and the commands; there is one such run, or
-- none
pub record ShardRun (input : List ℕ) : Type 0 where
  pub document : ShardDocument
  pub is_run : input_says input ≡ runs document
  pub lines : LinesRun (describe_sharded document) (input_lines input)

-- an ending that a run in form alone has
abbrev pub IsOfRun : Ending → Type 0
IsOfRun done = Unit {0}
IsOfRun write_fault = Unit {0}
IsOfRun (damaged_chunk key) = Unit {0}
IsOfRun store_fault = Unit {0}
IsOfRun _ = ⊥

-- what a run of lines owes: its replies, its causes, what it costs and what it leaves in any store
abbrev pub RunsLines : ShardDocument → Settings → List ℕ → ProgramSeen → ProgramSeen → Ending
    → Type 0
RunsLines document settings input before now ending =
    AnswersLines (shard_costs document) (describe_sharded document) settings (input_lines input)
    (outside before.sink before.store) (outside now.sink now.store) ending

-- Each key that is neither a key line's nor that of a chunk that an accepted command writes or
-- erases holds what it held. Without a run in form each key does.
abbrev pub SameButSharded : List ℕ → Content → Content → Type 0
SameButSharded input old new = (key : List ℕ) → ((run : ShardRun input) → ¬ IsLineKey input key
    × ¬ IsChangedKey (describe_sharded run.document) run.lines.commands key) →
    new key ≡ old key
