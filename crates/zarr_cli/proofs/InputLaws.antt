-- What an input says, where its lines were read, and where they were not.
use Rattle.std.proofs.Common.{◌≡◌, ℕ, ◌<◌, ◌≤◌, nat_lt, true, false, List, length, Some, IsUtf8, refl, sym, ap, ◌∙◌}
use Rattle.std.proofs.Common.{arith}
use Rattle.std.proofs.lemmas.Bool.{lt-ltb, le-ltb}
use Rattle.std.proofs.lemmas.Str.{utf8_valid_len-IsUtf8, utf8_valid_len-IsValidUpTo}
use Rattle.std.specs.Str.{IsValidUpTo}
use Rattle.std.specs.Str.Lossy.{utf8_valid_len}
use Rattle.zarr_model.specs.Prelude.{Told}
use Rattle.zarr_cli_runs.specs.lines.Text.{input_lines, line_at}
use Rattle.zarr_cli_runs.specs.Ending.{Ending, too_long, bad_input}
use Rattle.zarr_cli.specs.declared.lines.InputFault.{InputFault}
use Rattle.zarr_cli.specs.declared.lines.InputFault.TheVariants.{Read, TooLong, NotUtf8, OutOfMemory}
use Rattle.zarr_cli.specs.Input.{input_limit, IsInputFault, text_says}

module _ {V : Type 0} (stops : Ending → V) (says : List (List ℕ) → V) (input : List ℕ) where
  -- its lines were read
  pub lines_said : (lines : List (List ℕ)) → length input ≤ input_limit → IsUtf8 input → lines ≡ input_lines input →
      text_says stops says input ≡ says lines
  lines_said lines within utf8 same =
      let short : nat_lt input_limit (length input) ≡ false = le-ltb input_limit (length input) within in
      let whole : utf8_valid_len input ≡ length input = utf8_valid_len-IsUtf8 input utf8 in
      let text : nat_lt (utf8_valid_len input) (length input) ≡ false =
      le-ltb (utf8_valid_len input) (length input) (omega (arith, whole)) in
      rw (short, text) (ap says (sym same))

  long_said : input_limit < length input → text_says stops says input ≡ stops too_long
  long_said above = let long : nat_lt input_limit (length input) ≡ true = lt-ltb input_limit (length input) above in
      rw long refl

  bad_said : (n line : ℕ) → length input ≤ input_limit → IsValidUpTo input n → line ≡ line_at input n →
      text_says stops says input ≡ stops (bad_input line)
  bad_said n line within up at =
      let short : nat_lt input_limit (length input) ≡ false = le-ltb input_limit (length input) within in
      let here : utf8_valid_len input ≡ n = utf8_valid_len-IsValidUpTo input n up in
      let some : n < length input = up.short in
      let bad : nat_lt (utf8_valid_len input) (length input) ≡ true =
      lt-ltb (utf8_valid_len input) (length input) (omega (arith, here, some)) in
      rw (short, bad)
      (ap (λ (k : ℕ). stops (bad_input (line_at input k))) here ∙ ap (λ (k : ℕ). stops (bad_input k)) (sym at))

  -- or not, and the input is why, unless the source failed or memory ran out
  abbrev pub SaysFault : InputFault → Type 0
  SaysFault Read = Unit {0}
  SaysFault TooLong = text_says stops says input ≡ stops too_long
  SaysFault (NotUtf8 line) = text_says stops says input ≡ stops (bad_input line)
  SaysFault OutOfMemory = Unit {0}

  pub fault_said : (before now : Told) (fault : InputFault) → before.left ≡ Some input → IsInputFault before now fault →
      SaysFault fault
  fault_said before now Read left is = tt
  fault_said before now TooLong left is = long_said (is input left)
  fault_said before now (NotUtf8 line) left is =
      (let bad = is input left in bad_said bad.1.0 line bad.0 bad.1.1 bad.1.2)
  fault_said before now OutOfMemory left is = tt
