-- Each chunk of an array has room.
use Rattle.std.proofs.Common.{ℕ, ◌+◌, ◌*◌, ◌^◌, ◌<◌, List}
use Rattle.zarrs_codec_traits.specs.Prelude.{count, Description, IsChunk, kind, fixed_size, size_in}
use Rattle.zarrs_chunk_grid.specs.ChunkGrid.{BoxFits}
use Rattle.zarr_basics.proofs.LimitLaws.{small_chunk}
use Rattle.zarr_array_open.proofs.ServedLaws.{counts_of}
use Rattle.zarr_array.specs.Access.{IsServed}

-- its box ends within 64 bits, and its elements can be counted and their bytes be addressed
pub record HasRoom (description : Description) (chunk : List ℕ) : Type 0 where
  pub fits : BoxFits description.grid chunk
  pub few : count (description.grid.chunk_box chunk) + 1 < 2 ^ 64
  pub bytes : count (description.grid.chunk_box chunk) * size_in (fixed_size (kind description)) < 2 ^ 64

pub room : (description : Description) → IsServed description → (chunk : List ℕ) → IsChunk description.grid chunk →
    HasRoom description chunk
room description served chunk is_chunk =
    let small = small_chunk description.grid (fixed_size (kind description)) chunk served.small is_chunk in
    let counts = counts_of (fixed_size (kind description)) (count (description.grid.chunk_box chunk)) small.1 in
    record { fits = λ _. small.0; few = counts.0; bytes = counts.1 }
