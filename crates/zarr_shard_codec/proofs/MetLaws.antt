-- The inner chunks that a region meets, by their numbers.
use Rattle.std.proofs.Common.{◌≡◌, ℕ, ◌+◌, ◌-◌, ◌*◌, ◌<◌, nat_le, nat_lt, true, List, [], ◌∷◌, length}
use Rattle.std.proofs.Common.{slice_get, Some, refl, sym, ap, ap₂, ◌∙◌, subst, arith}
use Rattle.std.proofs.lemmas.Bool.{and_parts, and_from, cond-true}
use Rattle.zarr_array_boxes.proofs.MetLaws.{met_at, count_met}
use Rattle.zarrs_codec_traits.specs.Prelude.{count, count_of, whole, contains}
use Rattle.zarrs_codec_traits.specs.Prelude.{place, Grid, IsChunk, chunks_meeting, is_in}
use Rattle.zarrs_codec_traits.specs.Prelude.{region as region_of_subset}
use Rattle.zarr_model.proofs.RegionLaws.{place_below, count_whole, rank_within}
use Rattle.zarrs_array_subset.specs.Ravel.{count_front, place_front, is_below, raveled}
use Rattle.zarr_shard_codec.specs.MetInner.{met_codec, region_met, met_inner_at, AreMetInner}
use Rattle.zarr_shard_codec.specs.Placing.{inner_number}
use Rattle.zarr_shard_codec.specs.ShardCodec.{inner_of, inner_grid}
use Rattle.zarr_shard_codec.specs.declared.met_inner.MetInner.{MetInner}
use Rattle.zarr_shard_codec.specs.declared.shard_codec.ShardCodec.{ShardCodec}
use Rattle.zarr_shard_codec.proofs.CodecFacts.{covers}

-- the linear index of a tuple inside a shape is its place
front_is : (shape indices : List ℕ) → contains (whole shape) indices ≡ true → (is_below shape indices ≡ true) ×
    (place_front shape indices ≡ place (whole shape) indices) × (count_front shape indices ≡ count_of shape)
front_is [] [] inside = (refl, refl, refl)
front_is [] (i ∷ indices) inside = cc
front_is (n ∷ shape) [] inside = cc
front_is (n ∷ shape) (i ∷ indices) inside =
    let parts = and_parts (is_in i (record { start = 0; size = n })) (contains (whole shape) indices) inside in
    let near = and_parts (nat_le 0 i) (nat_lt i (0 + n)) parts.0 in
    let rest = front_is shape indices parts.1 in
    let same : i ≡ i - 0 = omega arith in
    let counted : count_front shape indices ≡ count (whole shape) = rest.2 ∙ sym (count_whole shape) in
    let below : nat_lt i n ≡ true = ap (nat_lt i) (omega arith) ∙ near.1 in (
      and_from _ _ below rest.0,
      ap₂ (λ (a b : ℕ). a + b) (ap₂ (λ (a b : ℕ). a * b) same counted) rest.1,
      ap (λ (c : ℕ). n * c) rest.2,
    )

pub raveled_inside : (shape indices : List ℕ) → contains (whole shape) indices ≡ true →
    raveled shape indices ≡ Some (place (whole shape) indices)
raveled_inside shape indices inside = let front = front_is shape indices inside in
    cond-true _ _ _ front.0 ∙ ap Some front.1

pub front_counted : (shape indices : List ℕ) → contains (whole shape) indices ≡ true →
    count_front shape indices ≡ count_of shape
front_counted shape indices inside = (front_is shape indices inside).2

-- the number of an inner chunk is that of a pair
pub below_pairs : (codec : ShardCodec) (chunk : List ℕ) → IsChunk (inner_grid codec) chunk →
    inner_number codec chunk < count_of (inner_grid codec).grid_shape
below_pairs codec chunk is_chunk = subst (λ n. inner_number codec chunk < n) (count_whole (inner_grid codec).grid_shape)
    (place_below (whole (inner_grid codec).grid_shape) chunk is_chunk)

module _ (met : MetInner) (are : AreMetInner met) where
  abbrev own : Grid
  own = inner_grid (met_codec met)

  -- the number of the last one
  pub num_met : count (region_of_subset met.chunks) ≡
      length (chunks_meeting (inner_grid (met_codec met)) (region_met met))
  num_met = count_met own (region_met met) (region_of_subset met.chunks) are.listed

  module _ (number : ℕ) (below : number < count (region_of_subset met.chunks)) where
    pub met_here : slice_get (chunks_meeting (inner_grid (met_codec met)) (region_met met)) number ≡
        Some (met_inner_at met number)
    met_here = (met_at own (region_met met) (region_of_subset met.chunks) are.listed number below).0

    pub met_chunk : IsChunk (inner_grid (met_codec met)) (met_inner_at met number)
    met_chunk = (met_at own (region_met met) (region_of_subset met.chunks) are.listed number below).1

  pub its_rank : (chunk : List ℕ) → IsChunk (inner_grid (met_codec met)) chunk →
      length (region_met met) ≡ length ((inner_grid (met_codec met)).chunk_box chunk)
  its_rank chunk is_chunk = rank_within (region_met met) (inner_of (met_codec met)).shape are.inside
      ∙ sym ((covers (met_codec met)).box_rank chunk is_chunk)
