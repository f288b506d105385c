-- What reading a region owes.
use Rattle.std.specs.Prelude.{◌≡◌, ◌<◌, ◌≤◌, ℕ, List, false, length, slice_get, Some, None, IsSome, Result, MatchResult}
use Rattle.zarr_model.specs.Prelude.{Region, count, Element, Array, kind, ArrayBytes, meaning, has_long_element}
use Rattle.zarr_model.specs.Prelude.{elements_in, chunks_meeting, chunk_content, HasMet, ChunkHas, finds_shared, Shown}
use Rattle.zarr_model.specs.Prelude.{Options, Description, layout, Rose}
use Rattle.zarrs_codec_traits.specs.Prelude.{SameContent, Copied}
use Rattle.zarr_array_boxes.specs.Elements.{list_in}
use Rattle.zarr_array_boxes.specs.BoxElements.{kind_held, box_held, list_held, HoldsShort}
use Rattle.zarr_array_boxes.specs.declared.box_elements.BoxElements.{BoxElements}
use Rattle.zarrs_codec_error.specs.declared.error.CodecError.{CodecError}
use Rattle.zarr_chunks.specs.declared.fetched.Fetched.{Fetched}
use Rattle.zarr_array.specs.declared.command_error.CommandError.{CommandError}
use Rattle.zarr_array.specs.declared.command_error.SessionErrorKind.{SessionErrorKind}
use Rattle.zarr_array.specs.declared.command_error.SessionErrorKind.TheVariants.{NotOpened, ChunkDecode, Store}
use Rattle.zarr_array.specs.declared.command_error.SessionErrorKind.TheVariants.{OutOfMemory}
use Rattle.zarr_array.specs.Access.{Access, described}
use Rattle.zarr_array.specs.RegionChunks.{asked_of}
use Rattle.zarr_array.specs.Fetch.{HasRead, NotFetched}
use Rattle.zarr_array.specs.Pays.{PaysShared, PaysRead, PaysPart}
use Rattle.zarr_array.specs.Shared.{IsReadable, IsHeldShared}
use Rattle.zarr_array.specs.Tells.{TellsOfSome}

-- the cause at the next chunk after k of the region's: its value does not decode and may not be
-- passed over, the store failed, or memory ran out
abbrev pub HasReadCause : Description → Options → Region → ℕ → Shown → Shown → SessionErrorKind →
    Type 0
HasReadCause description options region k before now (ChunkDecode key error) =
    (chunk : List ℕ) × (slice_get (chunks_meeting description.grid region) k ≡ Some chunk)
    × (description.key chunk ≡ key)
    × (chunk_content (layout description options) before.content chunk ≡ None)
    × (finds_shared description options region chunk (before.content key) ≡ false)
HasReadCause description options region k before now Store = Rose before.faults now.faults
HasReadCause description options region k before now OutOfMemory = Unit {0}
HasReadCause description options region k before now (NotOpened error) = ⊥

-- a read of a region that failed with k of its chunks done
pub record FailsToRead (description : Description) (options : Options) (region : Region) (k : ℕ)
    (before now : Shown) (kind : SessionErrorKind) : Type 0 where
  pub few : k ≤ length (chunks_meeting description.grid region)
  pub cause : HasReadCause description options region k before now kind

-- elements are held over a region of an array, one for each of its places, and none is too long for
-- its length to be stored
pub record HoldsRegion (array : Access) (region : Region) (elements : BoxElements) : Type 0
  where
    pub of_kind : kind_held elements ≡ kind (described array)
    pub over : box_held elements ≡ region
    pub short : HoldsShort elements

-- what a chunk and a region share was read into the region's elements
pub record HasReadChunk (array : Access) (options : Options) (region : Region)
    (chunk : List ℕ) (old new : List Element) (before now : Shown) : Type 0 where
  pub has_read : HasRead before now
  pub readable : IsReadable (described array) options region before.content chunk
  pub copied : (plain : Array Element)
      → ChunkHas (layout (described array) options) before.content plain chunk
      → Copied region ((described array).grid.chunk_box chunk)
      (elements_in ((described array).grid.chunk_box chunk) plain) old new
  pub as_long : length new ≡ length old
  pub paid : PaysShared array.costs (described array) options region chunk before now

-- a chunk was fetched for what it shares with a region, or was not, and the error is of this kind
abbrev pub FetchesShared : Access → Options → Region → List ℕ → Shown → Shown
    → (CodecError → SessionErrorKind) → Result Fetched CodecError → Type 0
FetchesShared array options region chunk before now kind_of result = MatchResult result
    (λ fetched. HasRead before now × IsHeldShared array options region chunk before fetched)
    (λ error. NotFetched (asked_of array region chunk) array options chunk before now
    (kind_of error))

-- a chunk was read so into the region's elements, or it was not fetched, and the error is of this
-- kind
abbrev pub ReadsChunk : {T E : Type 0} → Access → Options → Region → List ℕ → BoxElements
    → BoxElements → Shown → Shown → (E → SessionErrorKind) → Result T E → Type 0
ReadsChunk array options region chunk old new before now kind_of result = MatchResult result
    (λ _. HasReadChunk array options region chunk (list_held old) (list_held new) before now)
    (λ error. NotFetched (asked_of array region chunk) array options chunk before now
    (kind_of error))

-- elements are those of a region of each array that has the elements of the chunks met, each of
-- which decodes or is passed over
pub record HasReadList (array : Access) (options : Options) (region : Region)
    (before now : Shown) (list : List Element) : Type 0 where
  pub as_long : length list ≡ count region
  pub elements : (plain : Array Element)
      → HasMet (described array) options region before.content plain
      → list ≡ elements_in region plain
  pub readable : (k : ℕ) (chunk : List ℕ)
      → slice_get (chunks_meeting (described array).grid region) k ≡ Some chunk
      → IsReadable (described array) options region before.content chunk
  pub same : SameContent before now
  pub paid : PaysRead array.costs (described array) options region
      (chunks_meeting (described array).grid region) before now
  pub later : before.faults ≤ now.faults

-- array bytes mean such elements, none of which is too long
pub record HasReadRegion (array : Access) (options : Options) (region : Region)
    (before now : Shown) (bytes : ArrayBytes) : Type 0 where
  pub means : IsSome (meaning (kind (described array)) (count region) bytes)
  pub read : HasReadList array options region before now
      (list_in (kind (described array)) region bytes)
  pub short : has_long_element bytes ≡ false

-- a region was not read: nothing was changed, and the error has its place and cause and tells why
pub record NotReadRegion (array : Access) (options : Options) (region : Region)
    (before now : Shown) (error : CommandError) : Type 0 where
  pub same : SameContent before now
  pub later : before.faults ≤ now.faults
  pub failed : FailsToRead (described array) options region error.chunks_done before now error.kind
  -- the chunks before the error's place decode or are passed over
  pub readable : (k : ℕ) (chunk : List ℕ) → k < error.chunks_done
      → slice_get (chunks_meeting (described array).grid region) k ≡ Some chunk
      → IsReadable (described array) options region before.content chunk
  pub paid : PaysPart array.costs error.chunks_done
      (length (chunks_meeting (described array).grid region)) before now
  pub told : TellsOfSome (Some region) (described array) array.says options now error.kind
