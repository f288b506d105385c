-- A handle on one chunk of an array: the codecs and levels that it has, as contracts see them.
use Rattle.std.specs.Prelude.{◌≡◌, ℕ, List}
use Rattle.zarr_chunks.specs.Seen.{ChainSeen}
use Rattle.zarr_array.specs.Codecs.{basic_seen}
use Rattle.zarr_array_open.specs.ChunkLevels.{ServesShape, chunk_shape}
use Rattle.zarr_array.specs.OpenArray.{described_array}
use Rattle.zarr_array.specs.declared.open.OpenArray.{OpenArray}
use Rattle.zarr_array.specs.declared.handle.ChainHandle.{ChainHandle}

abbrev pub handle_seen : {S : Type 0} → ChainHandle S → ChainSeen
handle_seen handle = basic_seen handle.held.chain handle.held.levels

-- it has copies of an array's codecs, with their levels for a chunk, and this key
pub record IsHandleOn {S : Type 0} (array : OpenArray) (chunk place : List ℕ)
    (handle : ChainHandle S) : Type 0 where
  pub serves : ServesShape array.parts (chunk_shape (described_array array) chunk) handle.held.chain
      handle.held.levels
  pub key : handle.held.key ≡ place
