-- The chunks that a region meets, by their numbers.
use Rattle.std.proofs.Common.{◌≡◌, ℕ, ◌<◌, true, List, [], length, slice_get, Some, Result, Ok}
use Rattle.std.proofs.Common.{Err, IfOk, sym, ap, ◌∙◌}
use Rattle.std.proofs.lemmas.List.{nil_from_length}
use Rattle.zarr_array_boxes.proofs.MetLaws.{met_at, count_met}
use Rattle.zarr_model.specs.Prelude.{Region, count, tuples, ends_within, Grid, IsChunk, chunks_meeting}
use Rattle.zarr_model.specs.Prelude.{CoversShape}
use Rattle.zarr_model.proofs.RegionLaws.{rank_within}
use Rattle.zarr_model.proofs.FailureLaws.{meeting_is}
use Rattle.zarrs_array_subset.specs.ArraySubset.{region as region_of_subset}
use Rattle.zarr_array.specs.Access.{Access, IsServed, described}
use Rattle.zarr_array.specs.declared.region_chunks.RegionChunks.{RegionChunks}
use Rattle.zarr_array.specs.declared.chunk_place.ChunkPlace.{ChunkPlace}
use Rattle.zarr_array.specs.RegionChunks.{met_chunk_at, AreMetChunks, IsChunkPlace, IsMet}

pub met_rank : (shape : List ℕ) (grid : Grid) (region : Region) (chunk : List ℕ) → CoversShape shape grid →
    ends_within region shape ≡ true → IsChunk grid chunk →
    length region ≡ length (grid.chunk_box chunk)
met_rank shape grid region chunk covers inside is_chunk =
    rank_within region shape inside ∙ sym (covers.box_rank chunk is_chunk)

-- no chunk is met, or there is one
module _ (grid : Grid) (region chunks : Region) (listed : tuples chunks ≡ chunks_meeting grid region) where
  pub none_met : count chunks ≡ 0 → chunks_meeting grid region ≡ []
  none_met none = nil_from_length (chunks_meeting grid region) (sym (count_met grid region chunks listed) ∙ none)

module _ {C : Type 0} (array : Access) (met : RegionChunks C) (are : AreMetChunks array met) where
  abbrev over : Region
  over = region_of_subset met.subset.now

  -- the number of the last one
  pub num_met : count (region_of_subset met.chunks) ≡ length (chunks_meeting (described array).grid over)
  num_met = count_met (described array).grid over (region_of_subset met.chunks) are.listed

  module _ (number : ℕ) (below : number < count (region_of_subset met.chunks)) where
    pub met_here : slice_get (chunks_meeting (described array).grid over) number ≡ Some (met_chunk_at met number)
    met_here = (met_at (described array).grid over (region_of_subset met.chunks) are.listed number below).0

    pub met_chunk : IsChunk (described array).grid (met_chunk_at met number)
    met_chunk = (met_at (described array).grid over (region_of_subset met.chunks) are.listed number below).1

    -- its place
    pub met_place : IsServed (described array) → (place : ChunkPlace) → place.indices.items ≡ met_chunk_at met number →
        IsChunkPlace (described array) place → IsMet (described array) over place
    met_place served place is at = record {
      at = at;
      rank = met_rank (described array).shape (described array).grid over place.indices.items served.covers are.inside
          at.is_chunk;
      shares = (meeting_is (described array).grid over number place.indices.items (met_here ∙ ap Some (sym is))).1;
    }

    pub placed : {E : Type 0} → IsServed (described array) → (indices : List ℕ) → indices ≡ met_chunk_at met number →
        (result : Result ChunkPlace E) →
        IfOk result (λ place. (place.indices.items ≡ indices) × IsChunkPlace (described array) place) →
        IfOk result (λ place. (place.indices.items ≡ met_chunk_at met number) × IsMet (described array) over place)
    placed served indices is (Ok place) (its, at) = (its ∙ is, met_place served place (its ∙ is) at)
    placed served indices is (Err e) at = tt
