-- What fetching a chunk of an array owes.
use Rattle.std.specs.Prelude.{◌≡◌, ◌≤◌, ℕ, false, List, Option, Some, IsSome}
use Rattle.zarr_model.specs.Prelude.{Region, count, Element, kind, ArrayBytes, meaning, has_long_element, Options}
use Rattle.zarr_model.specs.Prelude.{Shown, chunk_content, layout}
use Rattle.zarrs_storage.specs.Store.{SameContent}
use Rattle.zarr_array_boxes.specs.Elements.{list_in}
use Rattle.zarr_array.specs.declared.command_error.SessionErrorKind.{SessionErrorKind}
use Rattle.zarr_array.specs.Access.{Access, described}
use Rattle.zarr_array.specs.Asked.{finds_asked}
use Rattle.zarr_array.specs.Chunk.{FailsToFetch}
use Rattle.zarr_array.specs.Pays.{PaysAtMost}
use Rattle.zarr_array.specs.Tells.{TellsOf}

-- a store was read, and nothing was written or changed
pub record HasRead (before now : Shown) : Type 0 where
  pub same : SameContent before now
  pub puts : now.puts ≡ before.puts
  pub later : before.faults ≤ now.faults

-- the elements of a chunk that array bytes mean
abbrev pub chunk_list : Access → List ℕ → ArrayBytes → List Element
chunk_list array chunk bytes =
    list_in (kind (described array)) ((described array).grid.chunk_box chunk) bytes

-- they mean a list of them, none of which is too long to be stored
pub record MeanChunk (array : Access) (chunk : List ℕ) (bytes : ArrayBytes) : Type 0 where
  pub means : IsSome (meaning (kind (described array))
      (count ((described array).grid.chunk_box chunk)) bytes)
  pub short : has_long_element bytes ≡ false

-- these are the elements of a chunk: those of its value, or the fill value where its key is absent
pub record HasElements (array : Access) (options : Options) (chunk : List ℕ) (before : Shown)
    (bytes : ArrayBytes) : Type 0 where
  pub mean : MeanChunk array chunk bytes
  pub elements : chunk_content (layout (described array) options) before.content chunk
      ≡ Some (chunk_list array chunk bytes)

-- a chunk was not fetched, all of it or the part that was asked for: nothing was changed, and the
-- error has its cause and tells why
pub record NotFetched (asked : Option Region) (array : Access) (options : Options)
    (chunk : List ℕ) (before now : Shown) (kind : SessionErrorKind) : Type 0 where
  pub same : SameContent before now
  pub paid : PaysAtMost array.costs before now
  pub puts : now.puts ≡ before.puts
  pub later : before.faults ≤ now.faults
  pub failed : FailsToFetch
      (chunk_content (layout (described array) options) before.content chunk)
      (finds_asked (described array) options chunk asked
      (before.content ((described array).key chunk)))
      ((described array).key chunk) before now kind
  pub told : TellsOf (described array) array.says options chunk asked now kind
