-- What was fetched of a chunk for what it shares with a region.
use Rattle.std.specs.Prelude.{◌≡◌, ◌⊎◌, ℕ, Bool, true, false, List, length, Option, Some, IsSome}
use Rattle.zarr_model.specs.Prelude.{Region, count, Element, has_long_element, Options, Shown, Content, Description}
use Rattle.zarr_model.specs.Prelude.{chunk_content, layout, part_of_box, finds_shared}
use Rattle.zarr_chunks.specs.Regions.{GivesRegion, fetched_bytes}
use Rattle.zarr_chunks.specs.declared.fetched.Fetched.{Fetched}
use Rattle.zarr_array_open.specs.ChunkLevels.{chunk_level}
use Rattle.zarr_array.specs.Access.{Access, described}
use Rattle.zarr_array.specs.Asked.{part_asked, finds_asked}

-- these are elements of a chunk's list for a box inside the chunk, none of which is too long for
-- its length to be stored
pub record HasSharedPart (array : Access) (chunk : List ℕ) (within : Region) (list : List Element)
    (fetched : Fetched) : Type 0 where
  pub as_long : length list ≡ count ((described array).grid.chunk_box chunk)
  pub gives : GivesRegion (chunk_level (described array) chunk) within list fetched
  pub short : has_long_element (fetched_bytes fetched) ≡ false

-- a chunk has this list, by what stands under its key
abbrev pub HasList : Access → Options → List ℕ → Shown → List Element → Type 0
HasList array options chunk before list =
    chunk_content (layout (described array) options) before.content chunk ≡ Some list

-- whether what stands under a chunk's key holds a box that is not all of the chunk
abbrev pub finds_box : Description → Options → List ℕ → Region → Option (List ℕ) → Bool
finds_box description options chunk within value = finds_asked description options chunk
    (part_asked (description.grid.chunk_box chunk) within) value

-- a chunk decodes, or its value holds a box of it
abbrev pub IsFound : Access → Options → List ℕ → Region → Content → Type 0
IsFound array options chunk within store =
    IsSome (chunk_content (layout (described array) options) store chunk)
    ⊎ (finds_box (described array) options chunk within (store ((described array).key chunk))
    ≡ true)

-- these are elements for a box inside a chunk, of a list that is the chunk's if it has one, and the
-- chunk has one or its value holds the box
pub record IsPartOf (array : Access) (options : Options) (chunk : List ℕ) (within : Region)
    (before : Shown) (fetched : Fetched) : Type 0 where
  pub list : List Element
  pub content : (own : List Element) → HasList array options chunk before own → own ≡ list
  pub found : IsFound array options chunk within before.content
  pub has : HasSharedPart array chunk within list fetched

-- these are elements of a chunk's list for what the chunk shares with a region
abbrev pub HoldsShared : Access → Region → List ℕ → List Element → Fetched → Type 0
HoldsShared array region chunk list fetched = HasSharedPart array chunk
    (part_of_box region ((described array).grid.chunk_box chunk)) list fetched

-- a chunk decodes, or a read of a region does not notice that its value does not
abbrev pub IsReadable : Description → Options → Region → Content → List ℕ → Type 0
IsReadable description options region store chunk =
    IsSome (chunk_content (layout description options) store chunk)
    ⊎ (finds_shared description options region chunk (store (description.key chunk)) ≡ true)

-- these are elements for what a chunk shares with a region, of a list that is the chunk's if it
-- has one, and the chunk is readable
pub record IsHeldShared (array : Access) (options : Options) (region : Region)
    (chunk : List ℕ) (before : Shown) (fetched : Fetched) : Type 0 where
  pub list : List Element
  pub content : (own : List Element) → HasList array options chunk before own → own ≡ list
  pub readable : IsReadable (described array) options region before.content chunk
  pub holds : HoldsShared array region chunk list fetched
