-- What each step of a run of lines promises to the next one.
use Rattle.std.specs.Prelude.{◌≡◌, ◌==◌, ℕ, ◌<◌, Bool, true, false, List, [], ◌∷◌, ◌++◌, length, drop, map, flat_map}
use Rattle.std.specs.Prelude.{string_bytes, IsUtf8, Option, Some, None, Result, IfErr, MatchResult, Vec}
use Rattle.std.specs.List.{All}
use Rattle.zarr_model.specs.Prelude.{Element, Array, Options, with_keys, Shown, Told, Rose, Command}
use Rattle.zarr_model.specs.Prelude.{Description, kind, replies, LeavesArray, SeesNoDamage, AreRefused, IsUntouched}
use Rattle.zarr_cli_runs.specs.array.boxes.Command.{command_of}
use Rattle.zarr_cli_runs.specs.array.Stored.{StoresForAll}
use Rattle.zarr_cli_runs.specs.lines.Text.{line_command, commands_of, replies_text}
use Rattle.zarr_cli_runs.specs.lines.Parts.{entry_view}
use Rattle.zarr_cli_runs.specs.lines.declared.parse.ParsedLines.{ParsedLines}
use Rattle.zarr_cli_runs.specs.Between.{LeavesBetween}
use Rattle.zarr_cli_runs.specs.Ending.{IsBeforeStore}
use Rattle.zarr_cli_runs.specs.Status.{ending_of}
use Rattle.zarr_cli_runs.specs.Commands.{MeansUndamaged, LeavesUndamaged}
use Rattle.zarr_cli_runs.specs.declared.status.Status.{Status}
use Rattle.zarr_cli_runs.specs.declared.status.Status.TheVariants.{BadInput, Chunk, Store, OutOfMemory}
use Rattle.zarr_cli.specs.Words.{Settings}
use Rattle.zarr_cli.specs.Input.{input_limit, IsNotUtf8}
use Rattle.zarr_cli.specs.declared.lines.InputFault.{InputFault}
use Rattle.zarr_cli.specs.declared.lines.InputFault.TheVariants.{Read, TooLong, NotUtf8}
use Rattle.zarr_cli.specs.declared.lines.InputFault.TheVariants as InputFault
use Rattle.zarr_cli.specs.declared.read.LinesSoFar.{LinesSoFar}
use Rattle.zarr_cli.specs.Lines.{LinesRun, IsOutOfForm, line_entries, with_entries}
use Rattle.zarr_cli_runs.specs.Job.{IsUnasked}
use Rattle.zarr_cli.specs.Run.{Prints, RunCosts, counts_of, CostsAll, EndedByDamage, SameButLines}

-- these bytes were taken from what a source had left, where it tells that
abbrev pub HasTaken : Option (List ℕ) → List ℕ → Option (List ℕ) → Type 0
HasTaken None taken now = Unit {0}
HasTaken (Some left) taken None = ⊥
HasTaken (Some left) taken (Some rest) = left ≡ taken ++ rest

-- lines that ended, each with its newline
abbrev pub with_newlines : List (List ℕ) → List ℕ
with_newlines lines = flat_map (λ line. line ++ 10 ∷ []) lines

abbrev pub NoNewline : List ℕ → Type 0
NoNewline bytes = All (λ b. (b == 10) ≡ false) bytes

abbrev pub AreWhole : List (List ℕ) → Type 0
AreWhole [] = Unit {0}
AreWhole (line ∷ lines) = NoNewline line × AreWhole lines

-- what stands behind lines that ended: the front of the next one, or a line that ended too and is
-- no UTF-8, and anything behind it
abbrev pub IsBehind : Bool → List ℕ → List ℕ → Type 0
IsBehind false line behind = (behind ≡ line) × NoNewline line
IsBehind true line behind = (bad rest : List ℕ) × (behind ≡ bad ++ 10 ∷ rest) × NoNewline bad
    × ¬ IsUtf8 bad

-- the lines of some bytes so far
pub record AreRead (taken : List ℕ) (so_far : LinesSoFar) : Type 0 where
  pub whole : AreWhole (map string_bytes so_far.lines.items)
  pub behind : List ℕ
  pub joined : taken ≡ with_newlines (map string_bytes so_far.lines.items) ++ behind
  pub is_behind : IsBehind so_far.bad so_far.line.items behind

-- the bytes that were read are no UTF-8, from this line on, or memory ran out
abbrev pub IsTextFault : LinesSoFar → InputFault → Type 0
IsTextFault so_far (NotUtf8 line) = (input : List ℕ) → AreRead input so_far → IsNotUtf8 input line
IsTextFault so_far InputFault.OutOfMemory = Unit {0}
IsTextFault _ _ = ⊥

-- one read ended by a fault of the source, or for want of memory
abbrev pub IsPieceFault : Told → Told → InputFault → Type 0
IsPieceFault before now Read = Rose before.faults now.faults
IsPieceFault before now InputFault.OutOfMemory = Unit {0}
IsPieceFault _ _ _ = ⊥

-- reading ended so, or because the source had too many bytes left
abbrev pub IsUnreadInput : Told → Told → InputFault → Type 0
IsUnreadInput before now TooLong = (input : List ℕ) → before.left ≡ Some input →
    input_limit < length input
IsUnreadInput before now Read = Rose before.faults now.faults
IsUnreadInput before now InputFault.OutOfMemory = Unit {0}
IsUnreadInput _ _ _ = ⊥

-- the lines behind the document are in form, and this is what they say
pub record SaysLines (description : Description) (lines : List (List ℕ)) (parsed : ParsedLines)
    : Type 0 where
  pub entries_are : map entry_view parsed.entries.items ≡ line_entries lines
  pub commands_are : commands_of (line_command (kind description)) (drop 1 lines)
      ≡ Some (map command_of parsed.commands.items)

-- one of them is out of form, or memory ran out
abbrev pub IsFormFault : Description → List (List ℕ) → Status → Type 0
IsFormFault description lines (BadInput line) = IsOutOfForm description lines line
IsFormFault description lines OutOfMemory = Unit {0}
IsFormFault _ _ _ = ⊥

-- commands were run over a store, and the text is that of their replies
pub record RepliesTo (costs : RunCosts) (description : Description) (options : Options)
    (commands : List Command) (before now : Shown) (text : List ℕ) : Type 0 where
  pub replied : (array : Array Element) →
      MeansUndamaged description options commands before.content array →
      text ≡ replies_text (replies description commands array)
  pub mended : LeavesUndamaged description options commands before.content now.content
  pub left : LeavesArray description options commands before.content now.content
  pub stored : StoresForAll description options commands before.content now.content
  pub undamaged : SeesNoDamage description options commands before.content
  pub cost : costs.ran options commands before.content (counts_of before) (counts_of now)

-- commands were run over a store, and the text is what they print, at its cost
pub record PrintsAll (costs : RunCosts) (description : Description) (settings : Settings)
    (commands : List Command) (before now : Shown) (text : List ℕ) : Type 0 where
  pub prints : Prints description settings commands before.content now.content text
  pub cost : CostsAll costs settings commands before now

-- the lines are in form, and this is what their run printed and left
pub record PrintsLines (costs : RunCosts) (description : Description) (settings : Settings)
    (lines : List (List ℕ)) (before now : Shown) (text : List ℕ) : Type 0 where
  pub run : LinesRun description lines
  pub prints : PrintsAll costs description settings run.commands
      (with_entries (line_entries lines) before) now text
  pub refused : AreRefused description run.commands → settings.dump ≡ false →
      IsUntouched (with_entries (line_entries lines) before) now

-- the cause of each early end
abbrev pub IsLinesFault : Bool → Description → Settings → List (List ℕ) → Shown → Shown → Status
    → Type 0
IsLinesFault once description settings lines before now (BadInput line) =
    IsOutOfForm description lines line
IsLinesFault once description settings lines before now (Chunk key) =
    (run : LinesRun description lines) × EndedByDamage once description settings.options
    run.commands (with_entries (line_entries lines) before) now key
IsLinesFault once description settings lines before now Store = (run : LinesRun description lines)
    × Rose before.faults now.faults
IsLinesFault once description settings lines before now OutOfMemory = Unit {0}
IsLinesFault _ _ _ _ _ _ _ = ⊥

-- what a run of lines comes to before its text is written
pub record RanLines {Z : Type 0} (costs : RunCosts) (description : Description)
    (settings : Settings)
    (lines : List (List ℕ)) (before now : Shown) (result : Result (Vec ℕ Z) Status) : Type 0 where
  pub told : MatchResult result
      (λ text. PrintsLines costs description settings lines before now text.items)
      (λ status. IsLinesFault costs.once description settings lines before now status)
  pub between : IfErr result (λ status. (run : LinesRun description lines) →
      LeavesBetween costs.once description settings.options (line_entries lines) run.commands
      before now (ending_of status))
  pub complete : (run : LinesRun description lines) → SeesNoDamage description settings.options
      run.commands (with_keys (line_entries lines) before.content) →
      ¬ Rose before.faults now.faults → IfErr result (λ status. status ≡ OutOfMemory)
  pub untouched : IfErr result (λ status. IsBeforeStore (ending_of status) → IsUntouched before now)
  pub unchanged : SameButLines description lines before.content now.content
  pub unasked : (run : LinesRun description lines) → AreRefused description run.commands →
      settings.dump ≡ false → IsUnasked before now
