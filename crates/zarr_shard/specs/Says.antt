-- What the input of a run over a sharded document says: an ending that stops it, or a document, by
-- which all of its lines are in form.
use Rattle.std.specs.Prelude.{ℕ, ◌+◌, nat_lt, if◌then◌else◌, List, length, drop}
use Rattle.zarr_model.specs.Prelude.{kind}
use Rattle.zarr_cli_runs.specs.lines.Text.{line_command, good_lines}
use Rattle.zarr_cli_runs.specs.Ending.{Ending, bad_input, refused_document, too_long}
use Rattle.zarr_cli.specs.Input.{text_says}
use Rattle.zarr_cli.specs.Lines.{first_line}
use Rattle.zarr_array_open.specs.ShardDocument.{ShardDocument}
use Rattle.zarr_array_open.specs.ShardOpening.{ShardAnswer, opened, not_opened, open_builtin_sharded}
use Rattle.zarr_shard.specs.ShardArray.{describe_sharded}

pub data ShardSays : Type 0 where
  stops : Ending → ShardSays
  runs : ShardDocument → ShardSays

-- how many lines behind the first one are in form, before one that is not
abbrev pub good_behind : ShardDocument → List (List ℕ) → ℕ
good_behind document lines =
    good_lines (line_command (kind (describe_sharded document))) (drop 1 lines)

abbrev pub lines_say : ShardDocument → List (List ℕ) → ShardSays
lines_say document lines = if nat_lt (good_behind document lines) (length (drop 1 lines))
    then stops (bad_input (good_behind document lines + 2)) else runs document

abbrev pub answer_says : List (List ℕ) → ShardAnswer → ShardSays
answer_says lines (opened document) = lines_say document lines
answer_says lines (not_opened why) = stops (refused_document why)

abbrev pub all_say : List (List ℕ) → ShardSays
all_say lines = answer_says lines (open_builtin_sharded (first_line lines))

-- the first of these that applies: too many bytes, a line that is no UTF-8, a refused document, a
-- line out of form
abbrev pub input_says : List ℕ → ShardSays
input_says input = text_says stops all_say input

-- an ending of which the input is the cause
abbrev pub IsOfInput : Ending → Type 0
IsOfInput too_long = Unit {0}
IsOfInput (bad_input line) = Unit {0}
IsOfInput (refused_document why) = Unit {0}
IsOfInput _ = ⊥
