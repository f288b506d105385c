-- What is stored of a chunk.
use Rattle.std.specs.Prelude.{◌≡◌, ◌&&◌, not, ℕ, Bool, false, List, Option, None}
use Rattle.std.specs.List.{list_all}
use Rattle.zarr_model.specs.Prelude.{Element, same_element, sizes, Options, Content, Rose, Shown, Description, layout}
use Rattle.zarrs_codec_error.specs.declared.error.CodecError.{CodecError}
use Rattle.zarrs_codec_error.specs.declared.error.CodecError.TheVariants as codec
use Rattle.zarrs_storage.specs.declared.store.StorageError.{StorageError}
use Rattle.zarrs_storage.specs.declared.store.StorageError.TheVariants as Storage
use Rattle.zarr_chunks.specs.Put.{PutsChunk, MayPutChunk}
use Rattle.zarr_array.specs.declared.command_error.SessionErrorKind.{SessionErrorKind}
use Rattle.zarr_array.specs.declared.command_error.SessionErrorKind.TheVariants.{NotOpened, ChunkDecode, Store}
use Rattle.zarr_array.specs.declared.command_error.SessionErrorKind.TheVariants.{OutOfMemory}

-- a chunk with these elements is not stored: all are the fill, and such chunks are not
abbrev pub is_dropped : Description → Options → List Element → Bool
is_dropped array options list =
    not options.store_empty_chunks && list_all (same_element array.fill) list

-- what the value of a chunk decodes to
abbrev pub decode_at : Description → List ℕ → Options → List ℕ → Option (List Element)
decode_at array chunk under value =
    (layout array under).decode (sizes (array.grid.chunk_box chunk)) value

-- a chunk was put under a key: absent where it is dropped, else by a value that decodes to it under
-- all options
abbrev pub PutsElements : Description → Options → List ℕ → List Element → Content → Content
    → List ℕ → Type 0
PutsElements array options chunk list old new key =
    PutsChunk (decode_at array chunk) (is_dropped array options list) list old new key

-- the same of a call that failed: the key may be as before or absent
abbrev pub MayPutElements : Description → Options → List ℕ → List Element → Content → Content
    → List ℕ → Type 0
MayPutElements array options chunk list old new key =
    MayPutChunk (decode_at array chunk) (is_dropped array options list) list old new key

-- an error of the store as one of a session
abbrev pub storage_kind : StorageError → SessionErrorKind
storage_kind Storage.Failed = Store
storage_kind (Storage.InvalidByteRange error) = Store
storage_kind Storage.OutOfMemory = OutOfMemory

-- an error of fetching or storing the chunk of a key as one of a session
abbrev pub chunk_kind : List ℕ → CodecError → SessionErrorKind
chunk_kind key (codec.StorageError error) = storage_kind error
chunk_kind key codec.OutOfMemory = OutOfMemory
chunk_kind key error = ChunkDecode key error

-- why a chunk with this content, of which what was asked for is found or not, has no elements: its
-- value does not decode and does not hold that, the store failed, or memory ran out
abbrev pub FailsToFetch : Option (List Element) → Bool → List ℕ → Shown → Shown → SessionErrorKind
    → Type 0
FailsToFetch content found key before now (ChunkDecode other error) =
    (other ≡ key) × (content ≡ None) × (found ≡ false)
FailsToFetch content found key before now Store = Rose before.faults now.faults
FailsToFetch content found key before now OutOfMemory = Unit {0}
FailsToFetch content found key before now (NotOpened error) = ⊥
