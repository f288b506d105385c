-- What the input of a run over a version 2 document says: an ending that stops it, or a document,
-- by which all of its lines are in form.
use Rattle.std.specs.Prelude.{ℕ, ◌+◌, nat_lt, if◌then◌else◌, List, length, drop}
use Rattle.zarr_model.specs.Prelude.{kind}
use Rattle.zarr_array_open.specs.Document.{ArrayDocument, describe}
use Rattle.zarr_cli_runs.specs.lines.Text.{line_command, good_lines}
use Rattle.zarr_cli_runs.specs.Ending.{Ending, bad_input, refused_document, too_long}
use Rattle.zarr_cli.specs.Input.{text_says}
use Rattle.zarr_cli.specs.Lines.{first_line}
use Rattle.zarr_v2.specs.Opening.{AnswerV2, opened_v2, refused_v2, not_opened_v2, open_builtin_v2}
use Rattle.zarr_v2.specs.Ending.{EndingV2, cli, refused}

pub data SaysV2 : Type 0 where
  stops : EndingV2 → SaysV2
  runs : ArrayDocument → SaysV2

abbrev pub stops_cli : Ending → SaysV2
stops_cli ending = stops (cli ending)

-- how many lines behind the first one are in form, before one that is not
abbrev pub good_behind_v2 : ArrayDocument → List (List ℕ) → ℕ
good_behind_v2 document lines = good_lines (line_command (kind (describe document))) (drop 1 lines)

abbrev pub lines_say_v2 : ArrayDocument → List (List ℕ) → SaysV2
lines_say_v2 document lines = if nat_lt (good_behind_v2 document lines) (length (drop 1 lines))
    then stops_cli (bad_input (good_behind_v2 document lines + 2)) else runs document

abbrev pub answer_says_v2 : List (List ℕ) → AnswerV2 → SaysV2
answer_says_v2 lines (opened_v2 document) = lines_say_v2 document lines
answer_says_v2 lines (refused_v2 why) = stops (refused why)
answer_says_v2 lines (not_opened_v2 why) = stops_cli (refused_document why)

abbrev pub all_say_v2 : List (List ℕ) → SaysV2
all_say_v2 lines = answer_says_v2 lines (open_builtin_v2 (first_line lines))

-- the first of these that applies: too many bytes, a line that is no UTF-8, a refused document, a
-- line out of form
abbrev pub says_v2 : List ℕ → SaysV2
says_v2 input = text_says stops_cli all_say_v2 input

-- an ending of which the input is the cause
abbrev pub IsOfInputV2 : EndingV2 → Type 0
IsOfInputV2 (cli too_long) = Unit {0}
IsOfInputV2 (cli (bad_input line)) = Unit {0}
IsOfInputV2 (cli (refused_document why)) = Unit {0}
IsOfInputV2 (cli _) = ⊥
IsOfInputV2 (refused why) = Unit {0}
