-- What storing a chunk of an array owes.
use Rattle.std.specs.Prelude.{◌≡◌, ℕ, List, Result, IfErr, OnOk, OnErr, IsErrOf}
use Rattle.zarrs_codec_traits.specs.Prelude.{Element, Options, Shown, HasCause, IsFault, IsPlain, SameContent}
use Rattle.zarrs_storage.specs.declared.store.StorageError.{StorageError}
use Rattle.zarrs_storage.specs.declared.store.StorageError.TheVariants as Storage
use Rattle.zarr_chunks.specs.Seen.{PutsOnce}
use Rattle.zarr_array.specs.Access.{Access, described}
use Rattle.zarr_array.specs.Chunk.{PutsElements, MayPutElements}

-- a chunk's elements were put under a key by one writing call, or may have been where the store
-- failed; want of memory changes nothing
pub record StoresElements (array : Access) (options : Options) (chunk : List ℕ)
    (list : List Element) (key : List ℕ) (before now : Shown)
    {T : Type 0} (result : Result T StorageError) : Type 0 where
  pub ok : OnOk result
      (PutsElements (described array) options chunk list before.content now.content key)
  pub failed : OnErr result
      (MayPutElements (described array) options chunk list before.content now.content key)
  pub memory : IsErrOf result Storage.OutOfMemory → SameContent before now
  pub puts : PutsOnce before.puts now.puts result
  pub asks : now.asks ≡ before.asks
  pub taken : now.taken ≡ before.taken
  pub plain : IfErr result IsPlain
  pub cause : HasCause IsFault before.faults now.faults result
