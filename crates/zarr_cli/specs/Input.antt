-- The input of a program: its bytes, and why its lines were not read.
use Rattle.std.specs.Prelude.{◌≡◌, ℕ, ◌<◌, ◌≤◌, nat_lt, if◌then◌else◌, List, length, Some}
use Rattle.std.specs.Str.{IsValidUpTo}
use Rattle.std.specs.Str.Lossy.{utf8_valid_len}
use Rattle.zarr_model.specs.Prelude.{Told, Rose}
use Rattle.zarr_cli_runs.specs.lines.Text.{input_lines, line_at}
use Rattle.zarr_cli_runs.specs.Ending.{Ending, too_long, bad_input}
use Rattle.zarr_cli.specs.declared.lines.InputFault.{InputFault}
use Rattle.zarr_cli.specs.declared.lines.InputFault.TheVariants.{Read, TooLong, NotUtf8, OutOfMemory}

-- the greatest number of bytes that an input may have
abbrev pub input_limit : ℕ
input_limit = 67108864

-- a line of some bytes has the first byte that is no UTF-8
abbrev pub IsNotUtf8 : List ℕ → ℕ → Type 0
IsNotUtf8 bytes line = (n : ℕ) × IsValidUpTo bytes n × (line ≡ line_at bytes n)

-- the lines were not read: the source failed, it had too many bytes left, they are no UTF-8, from
-- this line on, or memory ran out
abbrev pub IsInputFault : Told → Told → InputFault → Type 0
IsInputFault before now Read = Rose before.faults now.faults
IsInputFault before now TooLong = (input : List ℕ) → before.left ≡ Some input →
    input_limit < length input
IsInputFault before now (NotUtf8 line) = (input : List ℕ) → before.left ≡ Some input →
    (length input ≤ input_limit) × IsNotUtf8 input line
IsInputFault before now OutOfMemory = Unit {0}

-- what an input says, by what its lines say: it may have so many bytes, and has to be UTF-8; else
-- an ending stops it
abbrev pub text_says : {V : Type 0} → (Ending → V) → (List (List ℕ) → V) → List ℕ → V
text_says stops says input = if nat_lt input_limit (length input) then stops too_long
    else if nat_lt (utf8_valid_len input) (length input)
    then stops (bad_input (line_at input (utf8_valid_len input)))
    else says (input_lines input)
