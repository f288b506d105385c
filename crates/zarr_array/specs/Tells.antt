-- Which errors tell that the value of a chunk does not decode.
use Rattle.std.specs.Prelude.{◌≡◌, ℕ, List, Option}
use Rattle.zarr_model.specs.Prelude.{Region, Options, Shown, IsChunk, Description}
use Rattle.zarr_array.specs.Access.{Says, stored_by}
use Rattle.zarr_array.specs.Asked.{chunk_asked}
use Rattle.zarr_array.specs.declared.command_error.SessionErrorKind.{SessionErrorKind}
use Rattle.zarr_array.specs.declared.command_error.SessionErrorKind.TheVariants.{NotOpened, ChunkDecode, Store}
use Rattle.zarr_array.specs.declared.command_error.SessionErrorKind.TheVariants.{OutOfMemory}

-- an error of a chunk, of which all was asked for or a part, tells why the value that stands under
-- the chunk's key does not decode
abbrev pub TellsOf : Description → Says → Options → List ℕ → Option Region → Shown
    → SessionErrorKind → Type 0
TellsOf description says options chunk asked now (ChunkDecode key error) =
    (description.key chunk ≡ key) × stored_by says options chunk asked (now.content key) error
TellsOf description says options chunk asked now (NotOpened error) = Unit {0}
TellsOf description says options chunk asked now Store = Unit {0}
TellsOf description says options chunk asked now OutOfMemory = Unit {0}

-- the same of an error of a command: a read of a region asks for its part of each chunk, and every
-- other command for all of a chunk
abbrev pub TellsOfSome : Option Region → Description → Says → Options → Shown → SessionErrorKind
    → Type 0
TellsOfSome region description says options now (ChunkDecode key error) = (chunk : List ℕ)
    × IsChunk description.grid chunk
    × TellsOf description says options chunk (chunk_asked description region chunk) now
    (ChunkDecode key error)
TellsOfSome region description says options now (NotOpened error) = Unit {0}
TellsOfSome region description says options now Store = Unit {0}
TellsOfSome region description says options now OutOfMemory = Unit {0}
