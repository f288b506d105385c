-- What writing one chunk does to a store.
use Rattle.std.specs.Prelude.{◌≡◌, ◌+◌, ◌*◌, ◌^◌, ◌<◌, ◌≤◌, ◌||◌, ◌⊎◌, not, false, ℕ, List, None, IsSome}
use Rattle.zarr_model.specs.Prelude.{Element, Array, Options, Content, chunk_content, Shown, Description, layout}
use Rattle.zarr_model.specs.Prelude.{present_in, is_blank, ChunkHas, Rose, counted, Region, count, written}
use Rattle.zarr_model.specs.Prelude.{written_elements, kind, fixed_size, ArrayBytes, meaning, has_long_element}
use Rattle.zarrs_codec_slices.specs.Picking.{size_in}
use Rattle.zarr_array.specs.declared.command_error.SessionErrorKind.{SessionErrorKind}
use Rattle.zarr_array.specs.declared.command_error.SessionErrorKind.TheVariants.{NotOpened, ChunkDecode, Store}
use Rattle.zarr_array.specs.declared.command_error.SessionErrorKind.TheVariants.{OutOfMemory}
use Rattle.zarr_array.specs.Access.{Access, described}
use Rattle.zarr_array.specs.Pays.{PaysAtMost, PaysChange}
use Rattle.zarr_array.specs.Tells.{TellsOf}

-- a chunk has an array's elements under all options, and is absent exactly where these are all fill
-- and such chunks are not stored
pub record HoldsChunk (description : Description) (options : Options) (array : Array Element)
    (chunk : List ℕ) (store : Content) : Type 0 where
  pub has : (under : Options) → ChunkHas (layout description under) store array chunk
  pub present : present_in description store chunk
      ≡ (options.store_empty_chunks || not (is_blank description array chunk))

-- a chunk was changed: it holds the changed array's elements, for each array that it had
pub record ChangesChunk (description : Description) (options : Options) (change : Array Element →
    Array Element)
    (chunk : List ℕ) (old new : Content) : Type 0 where
  pub decoded : IsSome (chunk_content (layout description options) old chunk)
  pub mended : (under : Options) → IsSome (chunk_content (layout description under) new chunk)
  pub holds : (array : Array Element) → array.fill ≡ description.fill →
      ChunkHas (layout description options) old array chunk →
      HoldsChunk description options (change array) chunk new
  pub others : (key : List ℕ) → ¬ (key ≡ description.key chunk) → new key ≡ old key

-- the store failed while a chunk was changed: its key is old, new or absent
pub record StopsChunk (description : Description) (options : Options) (change : Array Element →
    Array Element)
    (chunk : List ℕ) (old new : Content) : Type 0 where
  pub here : (array : Array Element) → array.fill ≡ description.fill →
      ChunkHas (layout description options) old array chunk →
      (new (description.key chunk) ≡ old (description.key chunk))
      ⊎ (HoldsChunk description options (change array) chunk new
      ⊎ (new (description.key chunk) ≡ None))
  -- its key is old, or the chunk decoded, and decodes now under all options
  pub stays : (new (description.key chunk) ≡ old (description.key chunk))
      ⊎ (IsSome (chunk_content (layout description options) old chunk)
      × ((under : Options) → IsSome (chunk_content (layout description under) new chunk)))
  pub others : (key : List ℕ) → ¬ (key ≡ description.key chunk) → new key ≡ old key

-- Why changing a chunk failed: its value does not decode, the store failed, or memory ran out. The
-- store is changed by its own failure alone.
abbrev pub FailsToChange : Description → Options → (Array Element → Array Element) → List ℕ →
    Shown → Shown →
    SessionErrorKind → Type 0
FailsToChange description options change chunk before now (ChunkDecode key error) =
    (description.key chunk ≡ key)
    × (chunk_content (layout description options) before.content chunk ≡ None)
    × ((other : List ℕ) → now.content other ≡ before.content other)
FailsToChange description options change chunk before now Store =
    Rose before.faults now.faults × StopsChunk description options change chunk before.content
    now.content
FailsToChange description options change chunk before now OutOfMemory =
    (other : List ℕ) → now.content other ≡ before.content other
FailsToChange description options change chunk before now (NotOpened error) = ⊥

-- what writing array bytes to a region does to an array
abbrev pub region_change : Access → Region → ArrayBytes → Array Element → Array Element
region_change array region bytes = written region (written_elements (described array) region bytes)

-- array bytes mean elements of a region, which can be counted and addressed, and none of which is
-- too long to be stored
pub record IsWritable (array : Access) (region : Region) (bytes : ArrayBytes) : Type 0 where
  pub means : IsSome (meaning (kind (described array)) (count region) bytes)
  pub short : has_long_element bytes ≡ false
  pub few : count region + 1 < 2 ^ 64
  pub room : count region * size_in (fixed_size (kind (described array))) < 2 ^ 64

-- a chunk was changed, by one call that writes
pub record HasWrittenChunk (array : Access) (options : Options)
    (change : Array Element → Array Element) (chunk : List ℕ) (before now : Shown) : Type 0 where
  pub changed : ChangesChunk (described array) options change chunk before.content now.content
  pub paid : PaysChange array.costs (described array) chunk before now
  pub puts : now.puts ≡ counted before.puts 1
  pub later : before.faults ≤ now.faults

-- changing a chunk failed: the error has its cause and tells why
pub record NotWrittenChunk (array : Access) (options : Options)
    (change : Array Element → Array Element) (chunk : List ℕ) (before now : Shown)
    (kind : SessionErrorKind) : Type 0 where
  pub failed : FailsToChange (described array) options change chunk before now kind
  pub told : TellsOf (described array) array.says options chunk None now kind
  pub paid : PaysAtMost array.costs before now
  pub puts : (now.puts ≡ before.puts) ⊎ (now.puts ≡ counted before.puts 1)
  pub later : before.faults ≤ now.faults
