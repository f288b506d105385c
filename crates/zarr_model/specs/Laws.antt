-- Laws of the definitions, as the contracts of `src/lib.rt` state them.
use Rattle.std.specs.Prelude.{◌≡◌, ℕ, ◌<◌, ◌↔◌, Bool, true, List, [], ◌++◌, length, get_or, Contains, Some, None}
use Rattle.std.specs.Prelude.{is_some, IsSome}
use Rattle.std.specs.List.{AllByRecursion}
use Rattle.zarr_model.specs.Region.{Region, count, contains, ends_within, tuples, linear_index}
use Rattle.zarr_model.specs.Element.{Element, Kind, IsOfKind}
use Rattle.zarr_model.specs.ArrayBytes.{ArrayBytes, meaning, array_bytes}
use Rattle.zarr_model.specs.Array.{Array, SameArray, elements_in, written}
use Rattle.zarr_model.specs.Grid.{IsChunk, CoversShape}
use Rattle.zarr_model.specs.Store.{Content, Layout, IsHonest, Means, WhollyMeans, IsSound, SameOtherKeys, chunk_content}
use Rattle.zarr_model.specs.Store.{stored_array}
use Rattle.zarr_model.specs.Codec.{Options}
use Rattle.zarr_model.specs.Command.{Command, Description, layout, bytes_refusal, replies, array_after}
use Rattle.zarr_model.specs.Failure.{IsCutShort, undamaged}

-- the row-major list has a tuple for each place, exactly the region's tuples, and each once; inside
-- a shape their linear indices rise
pub record ListsRegion (region : Region) : Type 0 where
  pub as_long : length (tuples region) ≡ count region
  pub exactly : (tuple : List ℕ) → (contains region tuple ≡ true) ↔ Contains (tuples region) tuple
  pub once : (i j : ℕ) (d : List ℕ) → i < count region → j < count region →
      get_or (tuples region) i d ≡ get_or (tuples region) j d → i ≡ j
  pub rises : (shape : List ℕ) (i j : ℕ) → ends_within region shape ≡ true → i < j →
      j < count region →
      linear_index shape (get_or (tuples region) i []) < linear_index shape
      (get_or (tuples region) j [])

-- a read of a region just written gives what was written
abbrev pub ReadsWhatWasWritten : Type 0
ReadsWhatWasWritten = (region : Region) (list : List Element) (array : Array Element) →
    length list ≡ count region →
    elements_in region (written region list array) ≡ list

-- an honest store wholly means one array, and any two arrays that it means are the same
pub record MeansOneArray (place : Layout Element) : Type 0 where
  pub some_array : (store : Content) → IsHonest place store →
      WhollyMeans place store (stored_array place store)
  pub is_meant : (store : Content) (array : Array Element) → WhollyMeans place store array →
      Means place store array
  pub one_array : (store : Content) (a b : Array Element) → Means place store a →
      Means place store b → SameArray a b

abbrev pub EachStoreMeansOne : Type 0
EachStoreMeansOne = (place : Layout Element) → CoversShape place.shape place.grid → IsSound place →
    MeansOneArray place

-- two runs, one after the other, are one run; arrays that are the same get the same replies
pub record RunsCompose (description : Description) : Type 0 where
  pub replies_join : (commands more : List Command) (array : Array Element) →
      replies description (commands ++ more) array ≡ replies description commands array
      ++ replies description more (array_after description commands array)
  pub arrays_join : (commands more : List Command) (array : Array Element) →
      array_after description (commands ++ more) array
      ≡ array_after description more (array_after description commands array)
  pub same_replies : (commands : List Command) (a b : Array Element) → a.shape ≡ description.shape →
      SameArray a b → replies description commands a ≡ replies description commands b
  pub same_left : (commands : List Command) (a b : Array Element) → SameArray a b →
      SameArray (array_after description commands a) (array_after description commands b)

-- array bytes are refused exactly where they mean nothing, and each list of elements is what some
-- array bytes mean
pub record BytesMean (kind : Kind) : Type 0 where
  pub refused : (number : ℕ) (value : ArrayBytes) →
      (bytes_refusal kind number value ≡ None) ↔ (is_some (meaning kind number value) ≡ true)
  pub counted : (number : ℕ) (value : ArrayBytes) (list : List Element) →
      meaning kind number value ≡ Some list → length list ≡ number
  pub way_back : (list : List Element) → AllByRecursion (IsOfKind kind) list →
      meaning kind (length list) (array_bytes kind list) ≡ Some list

-- a store that a failure left in the middle of a command is honest
abbrev pub CutShortIsHonest : Type 0
CutShortIsHonest = (description : Description) (options : Options) (command : Command) (k : ℕ)
    (by_store : Bool) (old new : Array Element) (store : Content) →
    CoversShape description.shape description.grid → IsSound (layout description options) →
    IsCutShort description options command k by_store old new store →
    IsHonest (layout description options) store

-- A store without its damaged keys is honest, and is the store but for them.
pub record IsUndamaged (place : Layout Element) (store clean : Content) : Type 0 where
  pub kept : (chunk : List ℕ) → IsChunk place.grid chunk →
      IsSome (chunk_content place store chunk) → clean (place.key chunk) ≡ store (place.key chunk)
  pub dropped : (chunk : List ℕ) → IsChunk place.grid chunk →
      chunk_content place store chunk ≡ None → clean (place.key chunk) ≡ None
  pub others : SameOtherKeys place store clean
  pub honest : IsHonest place clean

abbrev pub EachStoreMends : Type 0
EachStoreMends = (place : Layout Element) → IsSound place → (store : Content) →
    IsUndamaged place store (undamaged place store)
