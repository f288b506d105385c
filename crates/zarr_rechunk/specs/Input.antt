-- What the words and the input of a move say.
use Rattle.std.specs.Prelude.{ℕ, ◌+◌, nat_lt, if◌then◌else◌, List, [], ◌∷◌, length, drop, map, String, string_bytes}
use Rattle.zarr_cli_lines.specs.Text.{first_entries}
use Rattle.zarr_cli_runs.specs.array.parts.Document.{ArrayDocument}
use Rattle.zarr_cli_runs.specs.array.parts.Opening.{OpenAnswer, opened, not_opened, open_builtin}
use Rattle.zarr_cli_runs.specs.Ending.{Ending, bad_words, bad_input, refused_document}
use Rattle.zarr_cli.specs.Input.{text_says}
use Rattle.zarr_cli.specs.Lines.{first_line}

-- a move: the arrays, and the key lines of the source's store
pub record Move : Type 0 where
  pub source : ArrayDocument
  pub target : ArrayDocument
  pub entries : List (List ℕ × List ℕ)

-- they say a move, or stop it before a store is touched
pub data MoveVerdict : Type 0 where
  moves : Move → MoveVerdict
  stops : Ending → MoveVerdict

-- the lines behind two documents
abbrev pub key_lines : {Z : Type 0} → List (String Z) → List (List ℕ)
key_lines lines = drop 1 (drop 1 (map string_bytes lines))

-- what the lines behind two documents say, each of which has to be a key line
abbrev pub keys_say : ArrayDocument → ArrayDocument → List (List ℕ) → MoveVerdict
keys_say source target lines = if nat_lt (length (first_entries lines)) (length lines)
    then stops (bad_input (length (first_entries lines) + 3))
    else moves (record { source = source; target = target; entries = first_entries lines })

-- what the document of the target and the lines behind it say
abbrev pub target_says : ArrayDocument → OpenAnswer → List (List ℕ) → MoveVerdict
target_says source (not_opened why) lines = stops (refused_document why)
target_says source (opened target) lines = keys_say source target lines

abbrev pub target_lines_say : ArrayDocument → List (List ℕ) → MoveVerdict
target_lines_say source lines =
    target_says source (open_builtin (first_line lines)) (drop 1 lines)

-- what the document of the source and the lines behind it say
abbrev pub source_says : OpenAnswer → List (List ℕ) → MoveVerdict
source_says (not_opened why) lines = stops (refused_document why)
source_says (opened source) lines = target_lines_say source lines

abbrev pub move_lines_say : List (List ℕ) → MoveVerdict
move_lines_say lines = source_says (open_builtin (first_line lines)) (drop 1 lines)

-- what words and an input say: no word is known
abbrev pub move_verdict : List (List ℕ) → List ℕ → MoveVerdict
move_verdict [] input = text_says stops move_lines_say input
move_verdict (word ∷ words) input = stops bad_words
