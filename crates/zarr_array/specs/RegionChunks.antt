-- The chunks that a region of an array meets.
use Rattle.std.specs.Prelude.{◌≡◌, ◌<◌, ◌^◌, ℕ, List, [], length, true, Option, Some, None}
use Rattle.zarr_model.specs.Prelude.{Region, count, share_tuple, tuples, tuple_at, ends_within, Description, IsChunk}
use Rattle.zarr_model.specs.Prelude.{chunks_meeting}
use Rattle.zarrs_array_subset.specs.ArraySubset.{region}
use Rattle.zarrs_array_subset.specs.declared.array_subset.ArraySubset.{ArraySubset}
use Rattle.zarr_array.specs.Access.{Access, described}
use Rattle.zarr_array.specs.Asked.{chunk_asked}
use Rattle.zarr_array.specs.declared.region_chunks.RegionChunks.{RegionChunks}
use Rattle.zarr_array.specs.declared.chunk_place.ChunkPlace.{ChunkPlace}

-- the indices of the chunk of a number
abbrev pub met_chunk_at : {C : Type 0} → RegionChunks C → ℕ → List ℕ
met_chunk_at met number = tuple_at (region met.chunks) number

-- the part of a chunk that a read of the region asks for
abbrev pub asked_of : Access → Region → List ℕ → Option Region
asked_of array over chunk = chunk_asked (described array) (Some over) chunk

-- the region lies inside the array, and these are the chunks that it meets
pub record AreMetChunks {C : Type 0} (array : Access) (met : RegionChunks C) : Type 0 where
  pub inside : ends_within (region met.subset.now) (described array).shape ≡ true
  pub listed : tuples (region met.chunks)
      ≡ chunks_meeting (described array).grid (region met.subset.now)
  pub few : count (region met.chunks) < 2 ^ 64

-- the chunks that a region of an array meets, if it meets one
pub record AreMetBy {C : Type 0} (seen : C → Access) (array : C) (subset : ArraySubset)
    (met : RegionChunks C) : Type 0 where
  pub are : AreMetChunks (seen met.array.now) met
  pub of_array : met.array.now ≡ array
  pub of_subset : met.subset.now ≡ subset

abbrev pub Meets : {C : Type 0} → (C → Access) → C → ArraySubset → Option (RegionChunks C) → Type 0
Meets seen array subset None = chunks_meeting (described (seen array)).grid (region subset) ≡ []
Meets seen array subset (Some met) = AreMetBy seen array subset met

-- where a chunk of an array lies, and the key that its value stands under
pub record IsChunkPlace (description : Description) (place : ChunkPlace) : Type 0 where
  pub is_chunk : IsChunk description.grid place.indices.items
  pub lies : region place.subset ≡ description.grid.chunk_box place.indices.items
  pub key : place.key ≡ description.key place.indices.items

-- it is a chunk that a region meets
pub record IsMet (description : Description) (over : Region) (place : ChunkPlace) : Type 0 where
  pub at : IsChunkPlace description place
  pub rank : length over ≡ length (description.grid.chunk_box place.indices.items)
  pub shares : share_tuple (description.grid.chunk_box place.indices.items) over ≡ true
