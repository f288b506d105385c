-- When a session over an array ends with an error, and what it then leaves in the store.
use Rattle.std.specs.Prelude.{◌≡◌, ℕ, Bool, true, false, List, slice_get, Option, Some, None, IsErrAnd}
use Rattle.zarr_model.specs.Prelude.{Options, Content, Shown, Command, Description, command_chunks, IsPlace, begun}
use Rattle.zarr_model.specs.Prelude.{AsksUpTo, PutsUpTo, LeavesKeys, passes_over, IsUndecoded, IsStopped, IsStarved}
use Rattle.zarr_model.specs.Prelude.{IsLeftBut}
use Rattle.zarr_array_open.specs.Opening.{OpenRefusal}
use Rattle.zarr_array_open.specs.OpenError.{open_refusal_of}
use Rattle.zarr_array.specs.Ended.{Ended}
use Rattle.zarr_array.specs.Decoded.{AreDecoded}
use Rattle.zarr_array.specs.Stored.{StaysOrDecodes, DamageStands}
use Rattle.zarr_array.specs.declared.command_error.SessionErrorKind.{SessionErrorKind}
use Rattle.zarr_array.specs.declared.command_error.SessionErrorKind.TheVariants.{NotOpened, ChunkDecode, Store}
use Rattle.zarr_array.specs.declared.command_error.SessionErrorKind.TheVariants.{OutOfMemory}

-- the command at a place may not pass over the value of the next chunk there
abbrev pub IsNoticed : Description → Options → List Command → Content → Option (ℕ × ℕ) → Type 0
IsNoticed description options commands store None = ⊥
IsNoticed description options commands store (Some place) =
    (command : Command) × (slice_get commands place.0 ≡ Some command)
    × (chunk : List ℕ) × (slice_get (command_chunks description command) place.1 ≡ Some chunk)
    × (passes_over description options store command chunk ≡ false)

-- each error comes only with its cause, and says what it leaves; want of memory is free
abbrev pub HasSessionCause : Description → Options → List Command → Shown → Shown → Option (ℕ × ℕ) →
    SessionErrorKind → Type 0
HasSessionCause description options commands before now at (NotOpened error) = ⊥
HasSessionCause description options commands before now at (ChunkDecode key error) =
    IsUndecoded description options commands before.content now.content key at
    × IsNoticed description options commands before.content at
HasSessionCause description options commands before now at Store =
    IsStopped description options commands before now at
HasSessionCause description options commands before now at OutOfMemory =
    IsStarved description options commands before.content now.content at

-- whether an error is that of the store
abbrev pub is_store : SessionErrorKind → Bool
is_store Store = true
is_store _ = false

-- an error at a place of a run
pub record FailsAt (description : Description) (options : Options) (commands : List Command)
    (before now : Shown) (at : Option (ℕ × ℕ)) (kind : SessionErrorKind) : Type 0 where
  -- the place is one of the run, and the writing calls are those up to it
  pub place : IsPlace description commands at
  pub puts : PutsUpTo description commands before.puts now.puts at
  -- only commands that had begun change keys
  pub keys : LeavesKeys description options (begun commands at) before.content now.content
  -- each chunk holds after it what it held, or decodes under all options
  pub stored : StaysOrDecodes description before.content now.content
  -- and a value that does not decode stands, unless an accepted command that had begun erases
  -- its chunk
  pub damage : DamageStands description options (begun commands at) before.content now.content
  -- and over any store, without the damage that stands it is the array's, cut short at the place
  pub left : IsLeftBut description options commands before.content now.content (is_store kind) at
  -- what was met before the place decodes, or may be passed over
  pub decoded : AreDecoded description options commands before.content at
  -- and the error has its cause
  pub cause : HasSessionCause description options commands before now at kind

-- the same, and where one call fetches a chunk the reading calls are those up to the place
pub record FailsBy (once : Bool) (description : Description) (options : Options)
    (commands : List Command) (before now : Shown) (at : Option (ℕ × ℕ)) (kind : SessionErrorKind)
    : Type 0 where
  pub on : FailsAt description options commands before now at kind
  pub asks : once ≡ true → AsksUpTo description commands before.asks now.asks at

-- a session was not opened by this refusal, or wanted memory
abbrev pub IsNotOpenedBy : SessionErrorKind → OpenRefusal → Type 0
IsNotOpenedBy (NotOpened error) why = open_refusal_of error ≡ Some why
IsNotOpenedBy OutOfMemory why = Unit {0}
IsNotOpenedBy (ChunkDecode key error) why = ⊥
IsNotOpenedBy Store why = ⊥

-- a session whose text is not opened: it says so before any command, or wants memory, and the store
-- is as before
pub record EndsUnopened (why : OpenRefusal) (before now : Shown) (ended : Ended) : Type 0 where
  pub told : IsErrAnd ended (λ error. IsNotOpenedBy error.kind why × (error.at ≡ None))
  pub untouched : now ≡ before
