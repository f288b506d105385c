-- What a run leaves, also where it ended early.
use Rattle.std.specs.Prelude.{◌≡◌, ◌⊎◌, ℕ, Bool, true, false, List, length, Contains, Option}
use Rattle.zarr_model.specs.Prelude.{Options, counted, IsHonest, with_keys, Command, Description, layout, Shown, Rose}
use Rattle.zarr_model.specs.Prelude.{SetsSome, EndsBetween}
use Rattle.zarr_array.specs.Session.{FailsBy}
use Rattle.zarr_array.specs.declared.command_error.SessionErrorKind.{SessionErrorKind}
use Rattle.zarr_array.specs.declared.command_error.SessionErrorKind.TheVariants.{NotOpened, ChunkDecode}
use Rattle.zarr_array.specs.declared.command_error.SessionErrorKind.TheVariants as Kind
use Rattle.zarr_cli_runs.specs.Ending.{Ending, IsOrMemory, damaged_chunk, store_fault, out_of_memory}
use Rattle.zarr_cli_runs.specs.Commands.{LeavesUndamaged}

-- what a store shows once key lines are set, each by one writing call
abbrev pub with_entries : List (List ℕ × List ℕ) → Shown → Shown
with_entries entries store = record store {
  content = with_keys entries store.content;
  puts = counted store.puts (length entries);
}

-- a key is one of some entries
abbrev pub IsKeyOf : List (List ℕ × List ℕ) → List ℕ → Type 0
IsKeyOf entries key = (value : List ℕ) × Contains entries (key, value)

-- an honest store: some key lines of a run are set, its commands are cut short at a place, or all
-- of them ran; the key of the next chunk is absent only where the store failed, and this is told
abbrev pub IsBetween : Description → Options → List (List ℕ × List ℕ) → List Command → Shown →
    Shown → Ending → Type 0
IsBetween description options entries commands before now ending =
    EndsBetween description options entries commands false before.content now.content
    ⊎ ((ending ≡ store_fault) × Rose before.faults now.faults
    × EndsBetween description options entries commands true before.content now.content)

-- a session's error is told by this ending; the line of a damaged chunk may want memory
abbrev pub IsEndingBy : SessionErrorKind → Ending → Type 0
IsEndingBy (NotOpened error) ending = ⊥
IsEndingBy (ChunkDecode key error) ending = IsOrMemory ending (damaged_chunk key)
IsEndingBy Kind.Store ending = ending ≡ store_fault
IsEndingBy Kind.OutOfMemory ending = ending ≡ out_of_memory

-- over any store: a run ended while its key lines were set, as a session of its commands does with
-- the error that its ending tells, or behind all of them
abbrev pub EndsAlong : Bool → Description → Options → List (List ℕ × List ℕ) → List Command → Shown
    → Shown → Ending → Type 0
EndsAlong once description options entries commands before now ending =
    ((n : ℕ) × SetsSome entries n before.content now.content)
    ⊎ (((at : Option (ℕ × ℕ)) × (kind : SessionErrorKind) × IsEndingBy kind ending
    × FailsBy once description options commands (with_entries entries before) now at kind)
    ⊎ LeavesUndamaged description options commands (with_keys entries before.content) now.content)

-- what a run with this ending leaves
pub record LeavesBetween (once : Bool) (description : Description) (options : Options)
    (entries : List (List ℕ × List ℕ)) (commands : List Command) (before now : Shown)
    (ending : Ending) : Type 0 where
  -- a store that is honest once the key lines are set is in one of these states
  pub honest : IsHonest (layout description options) (with_keys entries before.content) →
      IsBetween description options entries commands before now ending
  -- and any store is
  pub along : EndsAlong once description options entries commands before now ending
