-- A run: what its words and its input say, what it prints, and what it leaves in the store.
use Rattle.std.specs.Prelude.{◌≡◌, true, ℕ, ◌≤◌, List, length, IsUtf8, Some}
use Rattle.zarr_model.specs.Prelude.{Content, Shown, Command, SeesNoDamage, IsDamageSeen}
use Rattle.zarr_cli_runs.specs.lines.Text.{commands_of}
use Rattle.zarr_cli_runs.specs.array.parts.Document.{ArrayDocument, describe}
use Rattle.zarr_cli_runs.specs.array.parts.Opening.{opened, open_builtin}
use Rattle.zarr_cli_runs.specs.Ending.{Ending}
use Rattle.zarr_cli_runs.specs.Between.{LeavesBetween}
use Rattle.zarr_cli_runs.specs.Commands.{IsChangedKey, EndsAtDamage}
use Rattle.zarr_cli.specs.Words.{Settings, ReadsBy}
use Rattle.zarr_cli.specs.Run.{Prints}
use Rattle.zarr_cli.specs.ProgramInput.{input_limit, document_line, lines_after_document, command_grammar}
use Rattle.zarr_cli.specs.ProgramInput.{input_entries, store_after_keys, with_entries, IsLineKey}

-- what the words and the input of a run say, where all of them have their form: there is one such
-- run, or none
pub record Run (words : List (List ℕ)) (input : List ℕ) : Type 0 where
  pub settings : Settings
  pub document : ArrayDocument
  pub commands : List Command
  pub are_words : ReadsBy words settings
  pub within : length input ≤ input_limit
  pub is_text : IsUtf8 input
  pub is_opened : open_builtin (document_line input) ≡ opened document
  pub are_commands : commands_of (command_grammar document) (lines_after_document input)
      ≡ Some commands

-- a run in form went through from its key lines on, and wrote what passes the test: all of its
-- output, or a front of it
abbrev pub WentThrough : List (List ℕ) → List ℕ → Content → Content → (List ℕ → Type 0) → Type 0
WentThrough words input old new wrote = (run : Run words input) × (output : List ℕ)
    × Prints (describe run.document) run.settings run.commands (store_after_keys input old) new
    output × wrote output

-- a run in form sees no damage once its key lines are set
abbrev pub IsRunnable : List (List ℕ) → List ℕ → Content → Type 0
IsRunnable words input old = (run : Run words input)
    × SeesNoDamage (describe run.document) run.settings.options run.commands
    (store_after_keys input old)

-- the cause of a damaged chunk: a run in form saw its value as the key lines left it
abbrev pub HasRunDamage : List (List ℕ) → List ℕ → Content → List ℕ → Type 0
HasRunDamage words input old key = (run : Run words input)
    × IsDamageSeen (describe run.document) run.settings.options run.commands
    (store_after_keys input old) key

-- a run in form ended as a session does at a damaged chunk
abbrev pub IsCutAtDamage : List (List ℕ) → List ℕ → Shown → Shown → List ℕ → Type 0
IsCutAtDamage words input before now key = (run : Run words input)
    × EndsAtDamage true (describe run.document) run.settings.options run.commands
    (with_entries (input_entries input) before) now key

-- what a run in form leaves, by its ending
abbrev pub LeavesInput : List (List ℕ) → List ℕ → Shown → Shown → Ending → Type 0
LeavesInput words input before now ending = (run : Run words input) →
    LeavesBetween true (describe run.document) run.settings.options
    (input_entries input) run.commands before now ending

-- Each key that is neither a key line's nor that of a chunk that an accepted command writes or
-- erases holds what it held. Without a run in form each key does.
abbrev pub SameButChanged : List (List ℕ) → List ℕ → Content → Content → Type 0
SameButChanged words input old new = (key : List ℕ) →
    ((run : Run words input) → ¬ IsLineKey input key
    × ¬ IsChangedKey (describe run.document) run.commands key) →
    new key ≡ old key
