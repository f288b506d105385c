-- What a move comes to, by what its lines, its input and its words say, before its text is written.
use Rattle.std.specs.Prelude.{◌≡◌, ◌⊎◌, ℕ, ◌+◌, ◌<◌, List, [], length, Vec, Result, IfOk, IfErr, OnOk, Some, None}
use Rattle.zarr_model.specs.Prelude.{Shown, Told, Rose, IsUntouched, layout, SameOtherKeys, SetsSome}
use Rattle.zarr_cli_lines.specs.Text.{first_entries}
use Rattle.zarr_cli_runs.specs.array.parts.Document.{ArrayDocument, describe}
use Rattle.zarr_cli_runs.specs.array.parts.OpenError.{open_refusal_of}
use Rattle.zarr_cli_runs.specs.Ending.{Ending}
use Rattle.zarr_cli.specs.Outcome.{Outcome, TellsEarly}
use Rattle.zarr_cli_runs.specs.declared.status.Status.{Status}
use Rattle.zarr_rechunk.specs.declared.error.RechunkErrorKind.{RechunkErrorKind}
use Rattle.zarr_rechunk.specs.declared.error.RechunkErrorKind.TheVariants as kind
use Rattle.zarr_rechunk.specs.declared.status.RechunkRefusal.{RechunkRefusal}
use Rattle.zarr_rechunk.specs.declared.status.RechunkRefusal.TheVariants.{ShapeMismatch, DataTypeMismatch, BandTooLarge}
use Rattle.zarr_rechunk.specs.declared.status.RechunkStatus.{RechunkStatus}
use Rattle.zarr_rechunk.specs.declared.status.RechunkStatus.TheVariants.{Cli, Refused}
use Rattle.zarr_rechunk.specs.Ending.{MoveEnding, cli, refused, move_ending_of}
use Rattle.zarr_rechunk.specs.Input.{Move, MoveVerdict, moves, stops}
use Rattle.zarr_rechunk.specs.Program.{move_options, source_content, IsUnmoved, IsMoved, IsRefusedMove, MayBeMoved}
use Rattle.zarr_rechunk.specs.Program.{HasDamage, IsHonestSource, IsHonestTarget}

-- what both stores show
pub record Both : Type 0 where
  pub from : Shown
  pub to : Shown

abbrev pub both : Shown → Shown → Both
both from to = record { from = from; to = to }

-- the move of two arrays
abbrev pub move_of : ArrayDocument → ArrayDocument → List (List ℕ × List ℕ) → Move
move_of source target entries = record { source = source; target = target; entries = entries }

-- the cause of an early end of a move
abbrev pub IsMoveFault : Move → Both → Both → RechunkStatus → Type 0
IsMoveFault move before now (Refused why) =
    IsRefusedMove move why × IsUnmoved move before.from now.from before.to now.to
IsMoveFault move before now (Cli (Status.Chunk key)) =
    MayBeMoved move × (now.from.content ≡ source_content move before.from.content)
    × HasDamage move before.from.content before.to.content key
IsMoveFault move before now (Cli Status.Store) =
    Rose before.from.faults now.from.faults ⊎ Rose before.to.faults now.to.faults
IsMoveFault move before now (Cli Status.OutOfMemory) = Unit {0}
IsMoveFault move before now (Cli _) = ⊥

-- a move over two stores
pub record RanMove {Z : Type 0} (move : Move) (before now : Both)
    (result : Result (Vec ℕ Z) RechunkStatus) : Type 0 where
  pub moved : IfOk result (λ text.
      IsMoved move before.from now.from before.to now.to text.items)
  pub fault : IfErr result (IsMoveFault move before now)
  pub refused : (why : RechunkRefusal) → IsRefusedMove move why →
      ¬ Rose before.from.faults now.from.faults →
      IfErr result (λ status. (status ≡ Refused why) ⊎ (status ≡ Cli Status.OutOfMemory))
  pub complete : MayBeMoved move → IsHonestSource move before.from.content →
      IsHonestTarget move before.to.content → ¬ Rose before.from.faults now.from.faults →
      ¬ Rose before.to.faults now.to.faults →
      IfErr result (λ status. status ≡ Cli Status.OutOfMemory)
  pub set : (n : ℕ) × SetsSome move.entries n before.from.content now.from.content
  pub others : SameOtherKeys (layout (describe move.target) move_options) before.to.content
      now.to.content
  pub honest : IsHonestTarget move before.to.content → IsHonestTarget move now.to.content

abbrev pub AreUntouched : Both → Both → Type 0
AreUntouched before now = IsUntouched before.from now.from × IsUntouched before.to now.to

-- both stores are as before, and the move was stopped by this ending, or memory ran out
pub record StoppedMove {Z : Type 0} (told : Ending) (before now : Both)
    (result : Result (Vec ℕ Z) RechunkStatus) : Type 0 where
  pub untouched : AreUntouched before now
  pub failed : OnOk result ⊥
  pub ends : IfErr result (λ status.
      (move_ending_of status ≡ cli told) ⊎ (status ≡ Cli Status.OutOfMemory))

-- what was moved, by what was said
abbrev pub RanMoveBy : {Z : Type 0} → MoveVerdict → Both → Both → Result (Vec ℕ Z) RechunkStatus
    → Type 0
RanMoveBy (moves move) before now result = RanMove move before now result
RanMoveBy (stops told) before now result = StoppedMove told before now result

-- where a source tells its bytes, what was moved by what they say, unless it failed
pub record RanMoveInput {Z : Type 0} (says : List ℕ → MoveVerdict) (source_before source_now : Told)
    (before now : Both) (result : Result (Vec ℕ Z) RechunkStatus) : Type 0 where
  pub ran : (input : List ℕ) → source_before.left ≡ Some input →
      RanMoveBy (says input) before now result
      ⊎ (AreUntouched before now × OnOk result ⊥
      × IfErr result (λ status. status ≡ Cli Status.Read))
  pub whole : (input : List ℕ) → source_before.left ≡ Some input →
      OnOk result (source_now.left ≡ Some [])

-- what an early ending of a move tells
abbrev pub TellsOfMove : Outcome → MoveEnding → Type 0
TellsOfMove o (cli ending) = TellsEarly o ending
TellsOfMove o (refused why) = Unit {0}

abbrev pub move_outcome : Type 0 → Type 0 → Both → Both → Outcome
move_outcome bad read_failed before now = record {
  bad = bad;
  read_failed = read_failed;
  store_failed = Rose before.from.faults now.from.faults ⊎ Rose before.to.faults now.to.faults;
  untouched = AreUntouched before now;
}

-- a status that holds no want of memory under another name
abbrev pub IsNamedMove : RechunkStatus → Type 0
IsNamedMove (Cli (Status.Document error)) = ¬ (open_refusal_of error ≡ None)
IsNamedMove (Cli _) = Unit {0}
IsNamedMove (Refused why) = Unit {0}

-- a status whose ending tells so, under its own name
pub record IsPlainMove (o : Outcome) (status : RechunkStatus) : Type 0 where
  pub told : TellsOfMove o (move_ending_of status)
  pub named : IsNamedMove status

-- the status of an array that was not moved
abbrev pub status_of : RechunkErrorKind → RechunkStatus
status_of kind.ShapeMismatch = Refused ShapeMismatch
status_of kind.DataTypeMismatch = Refused DataTypeMismatch
status_of kind.BandTooLarge = Refused BandTooLarge
status_of (kind.SourceChunk key error) = Cli (Status.Chunk key)
status_of kind.SourceStore = Cli Status.Store
status_of (kind.TargetChunk key error) = Cli (Status.Chunk key)
status_of kind.TargetStore = Cli Status.Store
status_of kind.OutOfMemory = Cli Status.OutOfMemory

-- a line is no key line, the first one, or memory ran out
abbrev pub IsKeysFault : List (List ℕ) → Status → Type 0
IsKeysFault lines (Status.BadInput line) = (length (first_entries lines) < length lines)
    × (line ≡ length (first_entries lines) + 3)
IsKeysFault lines Status.OutOfMemory = Unit {0}
IsKeysFault lines _ = ⊥
