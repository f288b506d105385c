-- Laws of damage and of what commands leave, as the contracts of `src/damage.rt` state them.
use Rattle.std.specs.Prelude.{◌≡◌, ◌≤◌, ◌++◌, [], ◌∷◌, ℕ, suc, true, false, Bool, IsTrue, List, take, slice_get, length}
use Rattle.std.specs.Prelude.{Option, Some, None}
use Rattle.zarr_model.specs.Region.{Region}
use Rattle.zarr_model.specs.Element.{Element}
use Rattle.zarr_model.specs.ArrayBytes.{ArrayBytes}
use Rattle.zarr_model.specs.Array.{Array}
use Rattle.zarr_model.specs.Grid.{IsChunk, CoversShape}
use Rattle.zarr_model.specs.Codec.{Options}
use Rattle.zarr_model.specs.Store.{Content, Layout, IsHonest, IsSound, WhollyMeans, SameOtherKeys, chunk_content}
use Rattle.zarr_model.specs.Store.{with_keys}
use Rattle.zarr_model.specs.Command.{Command, read, write, erase, Description, Answer, answered_done, kind, layout}
use Rattle.zarr_model.specs.Command.{refusal, reply, after, Matches}
use Rattle.zarr_model.specs.Cost.{command_chunks, asks_store}
use Rattle.zarr_model.specs.Failure.{Changes, undamaged, without_chunks}
use Rattle.zarr_model.specs.Outside.{PutsKey, MayPutKey}
use Rattle.zarr_model.specs.Causes.{KeepsDamage, MeetsNoDamage, IsLeftAt, IsUndecoded}
use Rattle.zarr_model.specs.Mended.{is_still_damaged, mended}
use Rattle.zarr_model.specs.Leaves.{RanOver, AnswersUndamaged, LeftAt, ChangedFirst, StopsAt, StaysDamaged, HasMet}
use Rattle.zarr_model.specs.KeyLines.{SetsSome}

-- a store without some chunks: their keys are absent, and each other key holds what it held
pub record IsWithout {E : Type 0} (place : Layout E) (which : List ℕ → Bool) (store clean : Content)
    : Type 0 where
  pub kept : (chunk : List ℕ) → IsChunk place.grid chunk → which chunk ≡ false →
      clean (place.key chunk) ≡ store (place.key chunk)
  pub dropped : (chunk : List ℕ) → IsChunk place.grid chunk → which chunk ≡ true →
      clean (place.key chunk) ≡ None
  pub others : SameOtherKeys place store clean

abbrev pub EachStoreIsWithout : Type 0
EachStoreIsWithout = (place : Layout Element) → IsSound place → (which : List ℕ → Bool) →
    (store : Content) → IsWithout place which store (without_chunks place which store)

-- what is sound and covers its shape, as each document's description does
pub record IsWell (description : Description) (options : Options) : Type 0 where
  pub covers : CoversShape description.shape description.grid
  pub sound : IsSound (layout description options)

-- over an honest store these are the words of honest stores: nothing is left out
abbrev pub HonestIsMended : Type 0
HonestIsMended = (description : Description) (options : Options) (commands : List Command)
    (old new : Content) → IsHonest (layout description options) old → (key : List ℕ) →
    mended description options commands old new key ≡ new key

-- after commands that ran, the damage that still stands is all that is there
abbrev pub RanIsMended : Type 0
RanIsMended = (description : Description) (options : Options) (commands : List Command)
    (old new : Content) → KeepsDamage description options commands old new → (key : List ℕ) →
    undamaged (layout description options) new key
    ≡ mended description options commands old new key

-- commands that ran, and then more, are commands that ran
abbrev pub RunsJoin : Type 0
RunsJoin = (description : Description) (options : Options) → IsWell description options →
    (commands more : List Command) (old mid new : Content) (answers others : List Answer) →
    RanOver description options commands old mid answers →
    RanOver description options more mid new others →
    RanOver description options (commands ++ more) old new (answers ++ others)

-- the answers are those of each array that the store means without its damage
abbrev pub AnswersByMeaning : Type 0
AnswersByMeaning = (description : Description) (options : Options) → IsWell description options →
    (commands : List Command) (old new : Content) (answers : List Answer) →
    RanOver description options commands old new answers →
    AnswersUndamaged description options commands old answers

-- no command ran
abbrev pub NoneRan : Type 0
NoneRan = (description : Description) (options : Options) (store : Content) →
    RanOver description options [] store store []

-- a refused command, or a read, ran where it left the content and its answer is the array's
abbrev pub UnchangedRan : Type 0
UnchangedRan = (description : Description) (options : Options) (command : Command)
    (old new : Content) (answer : Answer) →
    ((array : Array Element) → after description command array ≡ array) →
    ((key : List ℕ) → new key ≡ old key) →
    KeepsDamage description options (command ∷ []) old new →
    (MeetsNoDamage description options (command ∷ []) old → (array : Array Element) →
    WhollyMeans (layout description options) (undamaged (layout description options) old) array →
    Matches (kind description) answer (reply description command array)) →
    RanOver description options (command ∷ []) old new (answer ∷ [])

-- a write all of whose chunks were changed ran
abbrev pub WriteRan : Type 0
WriteRan = (description : Description) (options : Options) → IsWell description options →
    (region : Region) (value : ArrayBytes) (old new : Content) →
    refusal description (write region value) ≡ None →
    ChangedFirst description options (after description (write region value))
    (command_chunks description (write region value))
    (length (command_chunks description (write region value))) old new →
    KeepsDamage description options (write region value ∷ []) old new →
    RanOver description options (write region value ∷ []) old new (answered_done ∷ [])

-- an erase of a chunk, damaged or not, whose key is absent then, ran
abbrev pub EraseRan : Type 0
EraseRan = (description : Description) (options : Options) → IsWell description options →
    (chunk : List ℕ) (old new : Content) → refusal description (erase chunk) ≡ None →
    PutsKey old new (description.key chunk) None →
    KeepsDamage description options (erase chunk ∷ []) old new →
    RanOver description options (erase chunk ∷ []) old new (answered_done ∷ [])

-- a command some of whose first chunks were changed, and which then ended with no further change,
-- is cut short there
abbrev pub ChangesStay : Type 0
ChangesStay = (description : Description) (options : Options) → IsWell description options →
    (command : Command) (k : ℕ) (by_store : Bool) (old new : Content) →
    k ≤ length (command_chunks description command) →
    ChangedFirst description options (after description command)
    (command_chunks description command) k old new →
    LeftAt description options (command ∷ []) 0 k by_store old new

-- a command that leaves the array and the content, as a read, is cut short at each place
abbrev pub UnchangedIsLeft : Type 0
UnchangedIsLeft = (description : Description) (options : Options) → IsWell description options →
    (command : Command) (k : ℕ) (by_store : Bool) (old new : Content) →
    k ≤ length (command_chunks description command) →
    ((array : Array Element) → after description command array ≡ array) →
    ((key : List ℕ) → new key ≡ old key) →
    LeftAt description options (command ∷ []) 0 k by_store old new

-- over an honest store what is left is what is left of honest stores
abbrev pub HonestIsLeft : Type 0
HonestIsLeft = (description : Description) (options : Options) (commands : List Command)
    (m k : ℕ) (by_store : Bool) (old new : Content) →
    IsHonest (layout description options) old →
    LeftAt description options commands m k by_store old new →
    IsLeftAt description options commands old new by_store (Some (m, k))

-- chunk by chunk: where no damage still stands, the content is that of the store without damage
abbrev pub LeftByChunk : Type 0
LeftByChunk = (description : Description) (options : Options) → IsWell description options →
    (commands : List Command) (old new : Content) (chunk : List ℕ) →
    IsChunk description.grid chunk →
    is_still_damaged description options commands old chunk ≡ false →
    chunk_content (layout description options) (mended description options commands old new) chunk
    ≡ chunk_content (layout description options) new chunk

-- a read that meets no damage reads chunks of the array that the store means without it
abbrev pub ReadHasMet : Type 0
ReadHasMet = (description : Description) (options : Options) → IsWell description options →
    (region : Region) (store : Content) (array : Array Element) →
    refusal description (read region) ≡ None →
    MeetsNoDamage description options (read region ∷ []) store →
    WhollyMeans (layout description options) (undamaged (layout description options) store) array →
    HasMet description options region store array

-- an undecoded chunk is damage that was met: where none is met, no end names one
abbrev pub UndecodedIsMet : Type 0
UndecodedIsMet = (description : Description) (options : Options) (commands : List Command)
    (old new : Content) (key : List ℕ) (at : Option (ℕ × ℕ)) →
    MeetsNoDamage description options commands old →
    ¬ IsUndecoded description options commands old new key at

-- some first chunks of a command were changed and the next one was not: the command is cut short
abbrev pub ChangesAreLeft : Type 0
ChangesAreLeft = (description : Description) (options : Options) → IsWell description options →
    (command : Command) (k : ℕ) (chunk : List ℕ) (by_store : Bool) (old mid new : Content) →
    slice_get (command_chunks description command) k ≡ Some chunk →
    ChangedFirst description options (after description command)
    (command_chunks description command) k old mid →
    StopsAt description options (after description command) chunk
    (IsTrue by_store × Changes command) mid new →
    (asks_store command ≡ true → StaysDamaged description options chunk mid new) →
    LeftAt description options (command ∷ []) 0 k by_store old new

-- a command that ended at a place, after commands that ran, is a list that ended there
abbrev pub EndsLift : Type 0
EndsLift = (description : Description) (options : Options) → IsWell description options →
    (commands : List Command) (m k : ℕ) (command : Command) (by_store : Bool)
    (old mid new : Content) (answers : List Answer) → slice_get commands m ≡ Some command →
    RanOver description options (take m commands) old mid answers →
    LeftAt description options (command ∷ []) 0 k by_store mid new →
    LeftAt description options commands m k by_store old new

-- key lines are set one after another
pub record KeyLinesSet (entries : List (List ℕ × List ℕ)) : Type 0 where
  pub start : (store : Content) → SetsSome entries 0 store store
  pub done : (old new : Content) → ((key : List ℕ) → new key ≡ with_keys entries old key) →
      SetsSome entries (length entries) old new
  pub sets : (n : ℕ) (entry : List ℕ × List ℕ) (old mid new : Content) →
      slice_get entries n ≡ Some entry → ((key : List ℕ) →
      mid key ≡ with_keys (take n entries) old key) →
      PutsKey mid new entry.0 (Some entry.1) → (key : List ℕ) →
      new key ≡ with_keys (take (suc n) entries) old key
  pub fails : (n : ℕ) (entry : List ℕ × List ℕ) (old mid new : Content) →
      slice_get entries n ≡ Some entry → ((key : List ℕ) →
      mid key ≡ with_keys (take n entries) old key) →
      MayPutKey mid new entry.0 (Some entry.1) →
      SetsSome entries n old new
