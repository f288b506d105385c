-- The errors of moving an array, by those of its two arrays.
use Rattle.zarr_array.specs.declared.command_error.SessionErrorKind.{SessionErrorKind}
use Rattle.zarr_array.specs.declared.command_error.SessionErrorKind.TheVariants as session
use Rattle.zarr_rechunk.specs.declared.error.RechunkErrorKind.{RechunkErrorKind}
use Rattle.zarr_rechunk.specs.declared.error.RechunkErrorKind.TheVariants as rechunk

-- an error of a command on an opened array
abbrev pub IsOfCommand : SessionErrorKind → Type 0
IsOfCommand (session.NotOpened error) = ⊥
IsOfCommand (session.ChunkDecode key error) = Unit {0}
IsOfCommand session.Store = Unit {0}
IsOfCommand session.OutOfMemory = Unit {0}

abbrev pub source_kind : SessionErrorKind → RechunkErrorKind
source_kind (session.ChunkDecode key error) = rechunk.SourceChunk key error
source_kind session.Store = rechunk.SourceStore
source_kind (session.NotOpened error) = rechunk.OutOfMemory
source_kind session.OutOfMemory = rechunk.OutOfMemory

abbrev pub target_kind : SessionErrorKind → RechunkErrorKind
target_kind (session.ChunkDecode key error) = rechunk.TargetChunk key error
target_kind session.Store = rechunk.TargetStore
target_kind (session.NotOpened error) = rechunk.OutOfMemory
target_kind session.OutOfMemory = rechunk.OutOfMemory
