-- Commands that ran over a store: their replies, the keys that they may change, and why they ended
-- early.
use Rattle.std.specs.Prelude.{◌≡◌, ℕ, Bool, List, [], map, Option, Ok, true}
use Rattle.std.specs.List.{AllZip, list_any}
use Rattle.zarr_model.specs.Prelude.{Element, Array, Options, Content, Means, WhollyMeans, Shown, Command, Description}
use Rattle.zarr_model.specs.Prelude.{kind, layout, replies, array_after, Matches, LeavesArray, SeesNoDamage}
use Rattle.zarr_model.specs.Prelude.{MeetsNoDamage, KeepsDamage, RefusesRight, all_puts, counted, Rose, IsDamageSeen}
use Rattle.zarr_model.specs.Prelude.{IsChunk, changes_chunk, undamaged, LeavesKeys}
use Rattle.zarr_array.specs.boxes.Command.{answer_of}
use Rattle.zarr_array.specs.Stored.{StoresForAll}
use Rattle.zarr_cli_runs.specs.array.parts.Document.{ArrayDocument}
use Rattle.zarr_array.specs.Taken.{TakesAlone}
use Rattle.zarr_array.specs.Costs.{CostsOn}
use Rattle.zarr_array.specs.Access.{Costs}
use Rattle.zarr_array.specs.Session.{FailsBy}
use Rattle.zarr_array.specs.boxes.declared.command.Reply.{Reply}
use Rattle.zarr_cli_runs.specs.declared.status.Status.{Status}
use Rattle.zarr_cli_runs.specs.declared.status.Status.TheVariants.{OutOfMemory, Document, Chunk, Store}
use Rattle.zarr_array.specs.declared.command_error.SessionErrorKind.{SessionErrorKind}
use Rattle.zarr_array.specs.declared.command_error.SessionErrorKind.TheVariants.{NotOpened, ChunkDecode}
use Rattle.zarr_array.specs.declared.command_error.SessionErrorKind.TheVariants as Kind

-- a key is that of a chunk that an accepted command writes or erases
abbrev pub IsChangedKey : Description → List Command → List ℕ → Type 0
IsChangedKey array commands key = (chunk : List ℕ) × IsChunk array.grid chunk
    × (list_any (changes_chunk array chunk) commands ≡ true) × (array.key chunk ≡ key)

-- an array is that of a store without its damaged values, none of which some commands meet
abbrev pub MeansUndamaged : Description → Options → List Command → Content → Array Element → Type 0
MeansUndamaged description options commands store array =
    MeetsNoDamage description options commands store
    × Means (layout description options) (undamaged (layout description options) store) array

-- Commands that ran over any store: a damaged value stands until its chunk is erased, the array
-- that the store wholly means without them is the one that is left, and all other keys are as
-- before.
pub record LeavesUndamaged (description : Description) (options : Options)
    (commands : List Command) (old new : Content) : Type 0 where
  pub keeps : KeepsDamage description options commands old new
  pub whole : (array : Array Element) →
      WhollyMeans (layout description options) (undamaged (layout description options) old) array →
      WhollyMeans (layout description options) (undamaged (layout description options) new)
      (array_after description commands array)
  pub keys : LeavesKeys description options commands old new

-- the status of a session that ended early
abbrev pub session_status : SessionErrorKind → Status
session_status (NotOpened error) = Document error
session_status (ChunkDecode key error) = Chunk key
session_status Kind.Store = Store
session_status Kind.OutOfMemory = OutOfMemory

-- commands ended as a session does at a damaged chunk, the first one that it saw, by one call for
-- each chunk or not
abbrev pub EndsAtDamage : Bool → Description → Options → List Command → Shown → Shown → List ℕ
    → Type 0
EndsAtDamage once description options commands before now key = (at : Option (ℕ × ℕ))
    × (kind : SessionErrorKind) × (session_status kind ≡ Chunk key)
    × FailsBy once description options commands before now at kind

-- commands were run over a store, and these are their replies
pub record RepliedBy (description : Description) (options : Options) (commands : List Command)
    (before now : Shown) (held : List Reply) : Type 0 where
  pub matched : (array : Array Element) →
      MeansUndamaged description options commands before.content array →
      AllZip (Matches (kind description)) (map answer_of held) (replies description commands array)
  pub mended : LeavesUndamaged description options commands before.content now.content
  pub left : LeavesArray description options commands before.content now.content
  pub stored : StoresForAll description options commands before.content now.content
  pub undamaged : SeesNoDamage description options commands before.content
  pub refusals : RefusesRight description commands (map answer_of held)
  pub puts : now.puts ≡ counted before.puts (all_puts description commands)

-- what commands cost that all ran
abbrev pub CostsRun : Costs → Description → Options → List Command → Shown → Shown → Type 0
CostsRun costs description options commands before now =
    CostsOn costs description options commands before now (Ok [])

-- commands that all ran took exactly the bytes that they need, where the codec `bytes` is all of
-- the chain and presence before each is known
abbrev pub TakesRun : ArrayDocument → Options → List Command → Shown → Shown → Type 0
TakesRun document options commands before now =
    TakesAlone document options commands before now (Ok [])

-- commands ended early by their cause
abbrev pub IsRunFault : Bool → Description → Options → List Command → Shown → Shown → Status
    → Type 0
IsRunFault once description options commands before now (Chunk key) =
    IsDamageSeen description options commands before.content key
    × (now.content key ≡ before.content key)
    × EndsAtDamage once description options commands before now key
IsRunFault once description options commands before now Store = Rose before.faults now.faults
IsRunFault once description options commands before now OutOfMemory = Unit {0}
IsRunFault _ _ _ _ _ _ _ = ⊥
