-- What an error of a chunk tells is told of a command that met it.
use Rattle.std.proofs.Common.{ℕ, List, Option}
use Rattle.zarr_model.specs.Prelude.{Region, Options, Shown, IsChunk, Description}
use Rattle.zarrs_storage.specs.declared.store.StorageError.{StorageError}
use Rattle.zarrs_storage.specs.declared.store.StorageError.TheVariants as storage
use Rattle.zarr_array.specs.Access.{Says}
use Rattle.zarr_array.specs.Asked.{chunk_asked}
use Rattle.zarr_array.specs.Chunk.{storage_kind}
use Rattle.zarr_array.specs.Tells.{TellsOf, TellsOfSome}
use Rattle.zarr_array.specs.declared.command_error.SessionErrorKind.{SessionErrorKind}
use Rattle.zarr_array.specs.declared.command_error.SessionErrorKind.TheVariants.{NotOpened, ChunkDecode, Store}
use Rattle.zarr_array.specs.declared.command_error.SessionErrorKind.TheVariants.{OutOfMemory}

-- an error of the store tells nothing of a value
pub told_of_storage : (description : Description) (says : Says) (options : Options) (chunk : List ℕ) (asked : Option
    Region) (now : Shown) (fault : StorageError) → TellsOf description says options chunk asked now (storage_kind fault)
told_of_storage description says options chunk asked now storage.Failed = tt
told_of_storage description says options chunk asked now (storage.InvalidByteRange error) = tt
told_of_storage description says options chunk asked now storage.OutOfMemory = tt

-- what is told of a chunk is told of a command that met it
pub told_why : (description : Description) (says : Says) (options : Options) (region : Option Region) (chunk : List ℕ)
    (now : Shown) (kind : SessionErrorKind) → IsChunk description.grid chunk →
    TellsOf description says options chunk (chunk_asked description region chunk) now kind →
    TellsOfSome region description says options now kind
told_why description says options region chunk now (NotOpened error) is_chunk told = tt
told_why description says options region chunk now (ChunkDecode key error) is_chunk told = (chunk, is_chunk, told)
told_why description says options region chunk now Store is_chunk told = tt
told_why description says options region chunk now OutOfMemory is_chunk told = tt
