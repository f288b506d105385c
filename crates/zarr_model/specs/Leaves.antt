-- What commands leave in any store, however they end.
use Rattle.std.specs.Prelude.{◌≡◌, ◌<◌, ◌⊎◌, ℕ, suc, true, Bool, List, take, slice_get, Option, Some, None, IsSome}
use Rattle.std.specs.List.{AllZip}
use Rattle.zarr_model.specs.Region.{Region}
use Rattle.zarr_model.specs.Element.{Element}
use Rattle.zarr_model.specs.Array.{Array}
use Rattle.zarr_model.specs.Grid.{chunks_meeting, IsChunk}
use Rattle.zarr_model.specs.Codec.{Options}
use Rattle.zarr_model.specs.Store.{Content, Means, WhollyMeans, chunk_content}
use Rattle.zarr_model.specs.Command.{Command, Description, Answer, kind, layout, replies, array_after, Matches}
use Rattle.zarr_model.specs.Failure.{ChunkHas, FailedAt, undamaged}
use Rattle.zarr_model.specs.Causes.{KeepsDamage, MeetsNoDamage}
use Rattle.zarr_model.specs.Mended.{is_still_damaged, mended}

-- Commands that ran to their end over any store: damage stands until its chunk is erased, the array
-- that the store wholly means without its damage is the one that is left, and where no damage was
-- met the answers are that array's.
pub record RanOver (description : Description) (options : Options) (commands : List Command)
    (old new : Content) (answers : List Answer) : Type 0 where
  pub keeps : KeepsDamage description options commands old new
  pub whole : (array : Array Element) →
      WhollyMeans (layout description options) (undamaged (layout description options) old) array →
      WhollyMeans (layout description options) (undamaged (layout description options) new)
      (array_after description commands array)
  pub matches : MeetsNoDamage description options commands old → (array : Array Element) →
      WhollyMeans (layout description options) (undamaged (layout description options) old) array →
      AllZip (Matches (kind description)) answers (replies description commands array)

-- the answers are those of each array that the store means without its damage, where none is met
abbrev pub AnswersUndamaged : Description → Options → List Command → Content → List Answer → Type 0
AnswersUndamaged description options commands old answers =
    MeetsNoDamage description options commands old → (array : Array Element) →
    Means (layout description options) (undamaged (layout description options) old) array →
    AllZip (Matches (kind description)) answers (replies description commands array)

-- Commands that ended at a place, over any store: damage stands that no accepted command that had
-- begun erases, and without the damage that stood there the store is that of the array, cut short.
pub record LeftAt (description : Description) (options : Options) (commands : List Command)
    (m k : ℕ) (by_store : Bool) (old new : Content) : Type 0 where
  pub stands : (chunk : List ℕ) → IsChunk description.grid chunk →
      is_still_damaged description options (take (suc m) commands) old chunk ≡ true →
      new (description.key chunk) ≡ old (description.key chunk)
  pub left : (array : Array Element) →
      WhollyMeans (layout description options) (undamaged (layout description options) old) array →
      FailedAt description options commands m k by_store array
      (mended description options (take m commands) old new)

-- some first chunks of a command were changed, over any store
pub record ChangedFirst (description : Description) (options : Options)
    (change : Array Element → Array Element) (chunks : List (List ℕ)) (k : ℕ) (old new : Content)
    : Type 0 where
  pub decoded : (place : ℕ) (chunk : List ℕ) → place < k → slice_get chunks place ≡ Some chunk →
      IsSome (chunk_content (layout description options) old chunk)
  pub holds : (array : Array Element) (place : ℕ) (chunk : List ℕ) →
      array.fill ≡ description.fill → place < k → slice_get chunks place ≡ Some chunk →
      ChunkHas (layout description options) old array chunk →
      ChunkHas (layout description options) new (change array) chunk
  pub others : (key : List ℕ) → ((place : ℕ) (chunk : List ℕ) → place < k →
      slice_get chunks place ≡ Some chunk → ¬ (key ≡ description.key chunk)) → new key ≡ old key

-- the store failed while a chunk was changed, or the chunk's value did not decode: its key is old,
-- new or absent
pub record StopsAt (description : Description) (options : Options)
    (change : Array Element → Array Element) (chunk : List ℕ) (by_store : Type 0)
    (old new : Content) : Type 0 where
  pub here : (array : Array Element) → array.fill ≡ description.fill →
      ChunkHas (layout description options) old array chunk →
      (new (description.key chunk) ≡ old (description.key chunk))
      ⊎ (ChunkHas (layout description options) new (change array) chunk
      ⊎ (by_store × (new (description.key chunk) ≡ None)))
  pub others : (key : List ℕ) → ¬ (key ≡ description.key chunk) → new key ≡ old key

-- its key is old where its value does not decode
abbrev pub StaysDamaged : Description → Options → List ℕ → Content → Content → Type 0
StaysDamaged description options chunk old new =
    chunk_content (layout description options) old chunk ≡ None →
    new (description.key chunk) ≡ old (description.key chunk)

-- the store after commands ended at a place, over any store: cut short there, but for the damage
-- that stands, or unchanged where no command had begun
abbrev pub IsLeftBut : Description → Options → List Command → Content → Content → Bool →
    Option (ℕ × ℕ) → Type 0
IsLeftBut description options commands old new by_store None = (key : List ℕ) → new key ≡ old key
IsLeftBut description options commands old new by_store (Some place) =
    LeftAt description options commands place.0 place.1 by_store old new

-- an array has the elements of each chunk that a region meets
abbrev pub HasMet : Description → Options → Region → Content → Array Element → Type 0
HasMet description options region store array = (place : ℕ) (chunk : List ℕ) →
    slice_get (chunks_meeting description.grid region) place ≡ Some chunk →
    ChunkHas (layout description options) store array chunk
