-- The lines of a program: a document, key lines and command lines.
use Rattle.std.specs.Prelude.{◌≡◌, ℕ, ◌+◌, ◌<◌, List, [], ◌∷◌, length, drop, Some}
use Rattle.zarr_model.specs.Prelude.{Command, Content, Description, kind, with_keys}
pub use Rattle.zarr_cli_runs.specs.Between.{IsKeyOf, with_entries}
use Rattle.zarr_cli_runs.specs.lines.Text.{line_command, input_lines, first_entries, commands_of, good_lines}

-- the first line, and in an input the lines after it
abbrev pub first_line : List (List ℕ) → List ℕ
first_line [] = []
first_line (line ∷ lines) = line

abbrev pub document_line : List ℕ → List ℕ
document_line input = first_line (input_lines input)

abbrev pub lines_after_document : List ℕ → List (List ℕ)
lines_after_document input = drop 1 (input_lines input)

-- the entries of the key lines, which stand behind the document
abbrev pub line_entries : List (List ℕ) → List (List ℕ × List ℕ)
line_entries lines = first_entries (drop 1 lines)

-- the key lines of an input
abbrev pub input_entries : List ℕ → List (List ℕ × List ℕ)
input_entries input = first_entries (lines_after_document input)

-- a key is that of a key line
abbrev pub IsLineKey : List ℕ → List ℕ → Type 0
IsLineKey input key = IsKeyOf (input_entries input) key

-- what a store holds once its key lines are set
abbrev pub store_after_keys : List ℕ → Content → Content
store_after_keys input store = with_keys (input_entries input) store

-- what the lines behind the document say to an array, where all of them have their form: there are
-- such commands, or none
pub record LinesRun (description : Description) (lines : List (List ℕ)) : Type 0 where
  pub commands : List Command
  pub are_commands : commands_of (line_command (kind description)) (drop 1 lines) ≡ Some commands

-- the number of the first line behind the document that is out of form
pub record IsOutOfForm (description : Description) (lines : List (List ℕ)) (line : ℕ) : Type 0 where
  pub inside : good_lines (line_command (kind description)) (drop 1 lines) < length (drop 1 lines)
  pub first : line ≡ good_lines (line_command (kind description)) (drop 1 lines) + 2
