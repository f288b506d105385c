-- The input: a document, key lines and command lines.
use Rattle.std.specs.Prelude.{◌≡◌, ℕ, ◌+◌, ◌<◌, ◌≤◌, ◌⊎◌, List, length, IsUtf8, Option}
use Rattle.zarr_model.specs.Prelude.{Command, kind}
use Rattle.zarr_cli_runs.specs.lines.Text.{line_command, good_lines}
use Rattle.zarr_cli_runs.specs.array.parts.Document.{ArrayDocument, describe}
use Rattle.zarr_cli_runs.specs.array.parts.Opening.{OpenRefusal, opened, not_opened, open_builtin}
pub use Rattle.zarr_cli.specs.Input.{input_limit, IsNotUtf8}
pub use Rattle.zarr_cli.specs.Lines.{first_line, document_line, lines_after_document, IsKeyOf, input_entries, IsLineKey}
pub use Rattle.zarr_cli.specs.Lines.{store_after_keys, with_entries}
use Rattle.zarr_cli.specs.Words.{IsReading}

-- the grammar of command lines under a document
abbrev pub command_grammar : ArrayDocument → List ℕ → Option Command
command_grammar document = line_command (kind (describe document))

-- A line of the input has the first byte that is no UTF-8; or the input is UTF-8, its first line
-- opens, and this is the first line after it out of form.
abbrev pub IsBadLine : List ℕ → ℕ → Type 0
IsBadLine input line =
    IsNotUtf8 input line
    ⊎ (IsUtf8 input × (document : ArrayDocument)
    × (open_builtin (document_line input) ≡ opened document)
    × (good_lines (command_grammar document) (lines_after_document input) < length
    (lines_after_document input))
    × (line ≡ good_lines (command_grammar document) (lines_after_document input) + 2))

-- the causes of an early end that lie in the input, each where none before it holds
abbrev pub HasLongInput : List (List ℕ) → List ℕ → Type 0
HasLongInput words input = IsReading words × (input_limit < length input)

abbrev pub HasBadLine : List (List ℕ) → List ℕ → ℕ → Type 0
HasBadLine words input line = IsReading words × (length input ≤ input_limit) × IsBadLine input line

abbrev pub HasRefusedDocument : List (List ℕ) → List ℕ → OpenRefusal → Type 0
HasRefusedDocument words input why = IsReading words × (length input ≤ input_limit) × IsUtf8 input
    × (open_builtin (document_line input) ≡ not_opened why)
