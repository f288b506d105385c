-- What changing some chunks, one after another, does to a store.
use Rattle.std.specs.Prelude.{◌≡◌, ◌<◌, ◌≤◌, ◌⊎◌, ℕ, List, length, slice_get, Some, None, IsSome}
use Rattle.zarr_model.specs.Prelude.{Region, Element, ArrayBytes, Array, Options, chunk_content, chunks_meeting, Shown}
use Rattle.zarr_model.specs.Prelude.{Description, layout, counted, ChunkHas}
use Rattle.zarr_array.specs.Access.{Access, described}
use Rattle.zarr_array.specs.declared.command_error.CommandError.{CommandError}
use Rattle.zarr_array.specs.declared.command_error.SessionErrorKind.{SessionErrorKind}
use Rattle.zarr_array.specs.declared.command_error.SessionErrorKind.TheVariants.{OutOfMemory}
use Rattle.zarr_array.specs.Pays.{PaysChanges, CountsFirst, PaysPart}
use Rattle.zarr_array.specs.Tells.{TellsOfSome}
use Rattle.zarr_array.specs.Write.{HoldsChunk, region_change, FailsToChange}

-- the first k of some chunks were changed, with one writing call for each, and no other key was
pub record ChangedSome (description : Description) (options : Options) (change : Array Element →
    Array Element)
    (chunks : List (List ℕ)) (k : ℕ) (before now : Shown) : Type 0 where
  pub decoded : (place : ℕ) (chunk : List ℕ) → place < k → slice_get chunks place ≡ Some chunk →
      IsSome (chunk_content (layout description options) before.content chunk)
  pub mended : (place : ℕ) (chunk : List ℕ) → place < k → slice_get chunks place ≡ Some chunk →
      (under : Options) → IsSome (chunk_content (layout description under) now.content chunk)
  pub holds : (array : Array Element) (place : ℕ) (chunk : List ℕ) →
      array.fill ≡ description.fill → place < k → slice_get chunks place ≡ Some chunk →
      ChunkHas (layout description options) before.content array chunk →
      HoldsChunk description options (change array) chunk now.content
  pub others : (key : List ℕ) → ((place : ℕ) (chunk : List ℕ) → place < k →
      slice_get chunks place ≡ Some chunk →
      ¬ (key ≡ description.key chunk)) → now.content key ≡ before.content key
  pub puts : now.puts ≡ counted before.puts k
  pub later : before.faults ≤ now.faults

-- why the next chunk after k was not changed: memory ran out before it, or it could not be changed
abbrev pub StopsBefore : Description → Options → (Array Element → Array Element) → List (List ℕ) →
    ℕ → Shown → Shown →
    SessionErrorKind → Type 0
StopsBefore description options change chunks k before now kind =
    ((kind ≡ OutOfMemory) × ((key : List ℕ) → now.content key ≡ before.content key))
    ⊎ ((chunk : List ℕ) × (slice_get chunks k ≡ Some chunk)
    × FailsToChange description options change chunk before now kind)

-- changing some chunks failed with k of them done
pub record FailsPartWay (description : Description) (options : Options) (change : Array Element →
    Array Element)
    (chunks : List (List ℕ)) (k : ℕ) (before now : Shown) (kind : SessionErrorKind) : Type 0 where
  -- the store once these were changed
  pub mid : Shown
  pub few : k ≤ length chunks
  pub changed : ChangedSome description options change chunks k before mid
  pub stops : StopsBefore description options change chunks k mid now kind
  pub puts : CountsFirst k (length chunks) before.puts now.puts
  pub later : mid.faults ≤ now.faults

-- bytes were written to a region: each chunk that it meets was changed
pub record HasWrittenRegion (array : Access) (options : Options) (region : Region)
    (bytes : ArrayBytes) (before now : Shown) : Type 0 where
  pub changed : ChangedSome (described array) options (region_change array region bytes)
      (chunks_meeting (described array).grid region)
      (length (chunks_meeting (described array).grid region)) before now
  pub paid : PaysChanges array.costs (described array)
      (chunks_meeting (described array).grid region)
      (length (chunks_meeting (described array).grid region)) before now

-- they were not: the chunks before the error's place were changed, and it tells why
pub record NotWrittenRegion (array : Access) (options : Options) (region : Region)
    (bytes : ArrayBytes) (before now : Shown) (error : CommandError) : Type 0 where
  pub failed : FailsPartWay (described array) options (region_change array region bytes)
      (chunks_meeting (described array).grid region) error.chunks_done before now error.kind
  pub paid : PaysPart array.costs error.chunks_done
      (length (chunks_meeting (described array).grid region)) before now
  pub told : TellsOfSome None (described array) array.says options now error.kind
