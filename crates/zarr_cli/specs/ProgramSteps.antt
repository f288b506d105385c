-- What each step of the program promises to the next one.
use Rattle.std.specs.Prelude.{◌≡◌, ℕ, List, Option, Some, None}
use Rattle.zarr_cli_runs.specs.array.parts.Opening.{OpenRefusal}
use Rattle.zarr_cli_runs.specs.array.parts.OpenError.{open_refusal_of}
use Rattle.zarr_cli_runs.specs.declared.status.Status.{Status}
use Rattle.zarr_cli_runs.specs.declared.status.Status.TheVariants.{BadWords, BadInput, Document, Read, TooLong}
use Rattle.zarr_cli_runs.specs.declared.status.Status.TheVariants.{OutOfMemory}
use Rattle.zarr_cli.specs.Words.{HasBadWords}
use Rattle.zarr_cli.specs.ProgramInput.{HasLongInput, HasBadLine, HasRefusedDocument}

-- the cause of a refused document, by the refusal that an error stands for
abbrev pub RefusesInput : List (List ℕ) → List ℕ → Option OpenRefusal → Type 0
RefusesInput words input None = ⊥
RefusesInput words input (Some why) = HasRefusedDocument words input why

-- the cause of each status before the lines are run, for an input that is known; a type says
-- whether the source failed
abbrev pub IsEarlyFault : List (List ℕ) → List ℕ → Type 0 → Status → Type 0
IsEarlyFault words input rose BadWords = HasBadWords words
IsEarlyFault words input rose (BadInput line) = HasBadLine words input line
IsEarlyFault words input rose (Document error) = RefusesInput words input (open_refusal_of error)
IsEarlyFault words input rose Read = rose
IsEarlyFault words input rose TooLong = HasLongInput words input
IsEarlyFault words input rose OutOfMemory = Unit {0}
IsEarlyFault _ _ _ _ = ⊥

-- what holds of each such status where the input is not known
abbrev pub IsPlainFault : List (List ℕ) → Type 0 → Status → Type 0
IsPlainFault words rose BadWords = HasBadWords words
IsPlainFault words rose (BadInput line) = Unit {0}
IsPlainFault words rose (Document error) = ¬ (open_refusal_of error ≡ None)
IsPlainFault words rose Read = rose
IsPlainFault words rose TooLong = Unit {0}
IsPlainFault words rose OutOfMemory = Unit {0}
IsPlainFault _ _ _ = ⊥
