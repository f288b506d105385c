-- What a write that ended at one of its chunks did.
use Rattle.std.specs.Prelude.{ℕ}
use Rattle.zarr_model.specs.Prelude.{Region, ArrayBytes, written, written_elements, chunks_meeting, Options, Shown}
use Rattle.zarr_model.specs.Prelude.{Description, ChangedFirst}
use Rattle.zarr_array.specs.declared.command_error.SessionErrorKind.{SessionErrorKind}
use Rattle.zarr_array.specs.declared.command_error.SessionErrorKind.TheVariants.{NotOpened, ChunkDecode, Store}
use Rattle.zarr_array.specs.declared.command_error.SessionErrorKind.TheVariants.{OutOfMemory}

-- the first k chunks of a region were changed
abbrev pub ChangedUpTo : Description → Options → Region → ArrayBytes → ℕ → Shown → Shown → Type 0
ChangedUpTo array options region value k before now = ChangedFirst array options
    (written region (written_elements array region value)) (chunks_meeting array.grid region) k
    before.content now.content

-- over any store: the first k chunks were changed, and nothing else, unless the store failed
abbrev pub WritesUpTo : Description → Options → Region → ArrayBytes → ℕ → Shown → Shown →
    SessionErrorKind → Type 0
WritesUpTo array options region value k before now (ChunkDecode key error) =
    ChangedUpTo array options region value k before now
WritesUpTo array options region value k before now OutOfMemory =
    ChangedUpTo array options region value k before now
WritesUpTo array options region value k before now Store = Unit {0}
WritesUpTo array options region value k before now (NotOpened error) = Unit {0}
