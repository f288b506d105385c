-- One band that is moved.
use Rattle.std.specs.Prelude.{◌≡◌, ◌≤◌, true, false, ℕ, List, [], ◌∷◌, length, slice_get, Some, None, IsSome}
use Rattle.zarr_model.specs.Prelude.{Region, count, Element, Kind, kind, ArrayBytes, array_bytes, meaning}
use Rattle.zarr_model.specs.Prelude.{has_long_element, Options, Description, layout, IsHonest, read, write, refusal}
use Rattle.zarr_model.specs.Prelude.{answered, answered_done, Shown, SameOtherKeys, counted, chunks_meeting, is_among}
use Rattle.zarr_model.specs.Prelude.{IsChunk, Content, ServesArray, chunk_content, SeesNoDamage, region_refusal}
use Rattle.zarrs_storage.specs.Store.{SameContent}
use Rattle.zarr_rechunk.specs.Moved.{DecodesOrStays, DecodedOrStays}

-- what one reading of a band did, which gave these bytes
pub record HasReadBand (source : Description) (options : Options) (band : Region)
    (bytes : ArrayBytes) (before now : Shown) : Type 0 where
  pub accepted : refusal source (read band) ≡ None
  pub serves : IsHonest (layout source options) before.content →
      ServesArray source options (read band ∷ []) before.content now.content (answered bytes ∷ [])
  -- they are the band's elements, none of which is too long for its length to be stored
  pub valid : IsSome (meaning (kind source) (count band) bytes)
  pub short : has_long_element bytes ≡ false
  pub asks : now.asks ≡ counted before.asks (length (chunks_meeting source.grid band))
  pub undamaged : SeesNoDamage source options (read band ∷ []) before.content
  pub same : (key : List ℕ) → now.content key ≡ before.content key
  pub later : before.faults ≤ now.faults

-- what one writing of these bytes to it did
pub record HasWrittenBand (target : Description) (options : Options) (band : Region)
    (bytes : ArrayBytes) (before now : Shown) : Type 0 where
  pub accepted : refusal target (write band bytes) ≡ None
  pub serves : IsHonest (layout target options) before.content → ServesArray target options
      (write band bytes ∷ []) before.content now.content (answered_done ∷ [])
  pub asks : now.asks ≡ counted before.asks (length (chunks_meeting target.grid band))
  pub puts : now.puts ≡ counted before.puts (length (chunks_meeting target.grid band))
  pub others : SameOtherKeys (layout target options) before.content now.content
  -- each chunk that it meets decoded, so what was damaged stands
  pub decodes : (chunk : List ℕ) → is_among (chunks_meeting target.grid band) chunk ≡ true →
      IsSome (chunk_content (layout target options) before.content chunk)
  pub stays : DecodesOrStays target options before.content now.content
  pub stood : DecodedOrStays target options before.content now.content
  pub honest : IsHonest (layout target options) before.content →
      IsHonest (layout target options) now.content
  pub later : before.faults ≤ now.faults

-- bytes with nothing under their nulls mean the same list
abbrev pub AreCleared : Kind → ArrayBytes → ArrayBytes → Type 0
AreCleared of_kind bytes cleared = (list : List Element) →
    meaning of_kind (length list) bytes ≡ Some list → cleared ≡ array_bytes of_kind list

-- two arrays have one shape and one data type
pub record AreAlike (source target : Description) : Type 0 where
  pub shape : source.shape ≡ target.shape
  pub data_type : source.data_type ≡ target.data_type

-- a band was read, cleared and written
pub record HasMovedBand (source target : Description) (options : Options) (band : Region)
    (from_before from_now to_before to_now : Shown) : Type 0 where
  pub bytes : ArrayBytes
  pub cleared : ArrayBytes
  pub got : HasReadBand source options band bytes from_before from_now
  pub clear : AreCleared (kind source) bytes cleared
  pub put : HasWrittenBand target options band cleared to_before to_now

-- a band may be moved: the arrays are alike, and the target accepts it
pub record IsMovable (source target : Description) (band : Region) : Type 0 where
  pub alike : AreAlike source target
  pub accepted : region_refusal target band ≡ None

-- each band of a list may be
pub record AreMovable (source target : Description) (list : List Region) : Type 0 where
  pub alike : AreAlike source target
  pub accepted : (k : ℕ) (band : Region) → slice_get list k ≡ Some band →
      region_refusal target band ≡ None

-- what reading a store leaves however it ends: it holds what it held, and had no writing call
pub record IsOnlyRead (before now : Shown) : Type 0 where
  pub same : SameContent before now
  pub later : before.faults ≤ now.faults
  pub puts : now.puts ≡ before.puts

-- what writing a band leaves however it ends: the other keys are as they were, and the store is
-- honest where it was
pub record LeavesBand (target : Description) (options : Options) (before now : Shown) : Type 0 where
  pub others : SameOtherKeys (layout target options) before.content now.content
  pub later : before.faults ≤ now.faults
  pub honest : IsHonest (layout target options) before.content →
      IsHonest (layout target options) now.content

-- the chunks that a band does not meet hold what they held
abbrev pub StaysOutside : Description → Region → Content → Content → Type 0
StaysOutside target band old new = (chunk : List ℕ) → IsChunk target.grid chunk →
    is_among (chunks_meeting target.grid band) chunk ≡ false →
    new (target.key chunk) ≡ old (target.key chunk)
