-- What a codec's inner chunks are.
use Rattle.std.proofs.Common.{◌≡◌, ℕ, ◌+◌, ◌*◌, ◌^◌, ◌<◌, nat_le, Bool, true, false, List, length, Option, Some, None}
use Rattle.std.proofs.Common.{refl, sym, ap, ◌∙◌, subst, arith}
use Rattle.std.proofs.lemmas.List.{length-map}
use Rattle.std.proofs.lemmas.Bool.{or_parts}
use Rattle.std.specs.Int.NonZero.{non_zero_u64_get}
use Rattle.zarr_model.specs.Prelude.{sizes, count, count_of, whole, contains, place, ends_within, Element, kind}
use Rattle.zarr_model.specs.Prelude.{fixed_size, fill_element, is_too_large, Grid, IsChunk, CoversShape, regular_grid}
use Rattle.zarr_model.specs.Prelude.{Options}
use Rattle.zarr_model.proofs.ElementLaws.{same_is}
use Rattle.zarr_codec_chain.specs.Prelude.{fill_bytes, size_in}
use Rattle.zarr_model.proofs.RegionLaws.{contains-tuple_at, place-tuple_at}
use Rattle.zarr_model.proofs.RegionLaws.{sizes_whole}
use Rattle.zarr_basics.specs.GridForms.{ChunkGrid, regular, boundaries, grid_of}
use Rattle.zarr_basics.proofs.RegularFacts.{sizes_are}
use Rattle.zarr_array_open.specs.ChunkLevels.{chunk_shape}
use Rattle.zarr_array_open.specs.Parts.{documented_parts}
use Rattle.zarr_array_open.proofs.ServedLaws.{described_covers, chunk_counts, counts_of}
use Rattle.zarr_array_open.proofs.LimitLaws.{not_above}
use Rattle.zarr_array_open.specs.ShardDocument.{grid_lengths_of, is_regular_grid, index_size}
use Rattle.zarr_array_open.specs.Sharding.{are_inner_lengths}
use Rattle.zarr_array_open.proofs.LengthLaws.{inner_rank}
use Rattle.zarr_shard_codec.specs.Fill.{denotes}
use Rattle.zarr_shard_codec.specs.Shard.{shard_list}
use Rattle.zarr_shard_codec.specs.ShardCodec.{inner_of, inner_grid, inner_dims, own_level, own_array, own_list}
use Rattle.zarr_shard_codec.specs.ShardCodec.{shard_meaning}
use Rattle.zarr_shard_codec.specs.Placing.{indices_at, box_at}
use Rattle.zarr_shard_codec.specs.declared.shard_codec.ShardCodec.{ShardCodec}
use Rattle.zarr_shard_codec.proofs.CutLaws.{cut_within, cut_some}

-- a regular grid is the one of its lengths
pub regular_of : (form : ChunkGrid) → is_regular_grid form ≡ true → form ≡ regular (grid_lengths_of form)
regular_of (regular own) e = refl
regular_of (boundaries lengths) e = cc

-- an index that can be addressed has few pairs
few_pairs : (checked : Bool) (number : ℕ) → index_size checked number < 2 ^ 64 → number < 2 ^ 64
few_pairs false number room = omega (arith, room)
few_pairs true number room = omega (arith, room)

-- what is denoted
denoted_is : (o : Option Element) (element : Element) → denotes o element ≡ true → o ≡ Some element
denoted_is None element e = cc
denoted_is (Some own) element e = ap Some (same_is own element e)

module _ (codec : ShardCodec) where
  pub grid_is : inner_grid codec ≡ regular_grid (inner_of codec).shape (inner_dims codec)
  grid_is = ap (grid_of (inner_of codec).shape)
      (regular_of (documented_parts codec.shard.inner).grid codec.shard.regular ∙ ap regular codec.dims)

  cut : are_inner_lengths (inner_of codec).shape (inner_dims codec) ≡ true
  cut = subst (λ dims. are_inner_lengths (inner_of codec).shape dims ≡ true) codec.dims codec.shard.cut

  -- the bytes of the fill value denote the fill
  pub fill_is : fill_element (kind (inner_of codec)) (fill_bytes codec.fill_value) ≡ Some (inner_of codec).fill
  fill_is =
      denoted_is (fill_element (kind (inner_of codec)) (fill_bytes codec.fill_value)) (inner_of codec).fill codec.filled

  -- its elements and its index can be addressed
  small : (is_too_large (fixed_size (kind (inner_of codec))) (count_of (inner_of codec).shape) ≡ false)
      × (nat_le (2 ^ 64) (index_size codec.shard.checked (count_of (inner_grid codec).grid_shape)) ≡ false)
  small = or_parts (is_too_large (fixed_size (kind (inner_of codec))) (count_of (inner_of codec).shape))
      (nat_le (2 ^ 64) (index_size codec.shard.checked (count_of (inner_grid codec).grid_shape))) codec.shard.small

  pub own_fits : (count_of (inner_of codec).shape + 1 < 2 ^ 64) ×
      (count_of (inner_of codec).shape * size_in (fixed_size (kind (inner_of codec))) < 2 ^ 64)
  own_fits = counts_of (fixed_size (kind (inner_of codec))) (count_of (inner_of codec).shape) small.0

  pub index_fits : index_size codec.shard.checked (count_of (inner_grid codec).grid_shape) < 2 ^ 64
  index_fits = not_above (2 ^ 64) (index_size codec.shard.checked (count_of (inner_grid codec).grid_shape)) small.1

  pub inner_fits : count_of (inner_grid codec).grid_shape < 2 ^ 64
  inner_fits = few_pairs codec.shard.checked (count_of (inner_grid codec).grid_shape) index_fits

  -- there is an inner chunk
  pub has_inner : 0 < count_of (inner_grid codec).grid_shape
  has_inner = subst (λ (grid : Grid). 0 < count_of grid.grid_shape) (sym grid_is)
      (cut_some (inner_of codec).shape (inner_dims codec) cut codec.some)

  -- what a value decodes to by the codec's form is what it does by its own grid
  abbrev by_grid : Options → List ℕ → Grid → Option (List Element)
  by_grid under value grid =
      shard_list codec.shard.checked under.validate_checksums (record (own_array codec under) { grid = grid }) value

  pub meaning_is : (under : Options) (value : List ℕ) →
      shard_meaning codec under (own_level codec) value ≡ own_list codec under value
  meaning_is under value = ap (by_grid under value) (sym grid_is)

  pub covers : CoversShape (inner_of codec).shape (inner_grid codec)
  covers = described_covers codec.shard.inner

  -- each inner chunk has the inner shape, and lies inside the chunk
  abbrev fits_in : Grid → List ℕ → Type 0
  fits_in grid chunk = (sizes (grid.chunk_box chunk) ≡ inner_dims codec) ×
      (ends_within (grid.chunk_box chunk) (inner_of codec).shape ≡ true)

  pub chunk_cut : (chunk : List ℕ) → IsChunk (inner_grid codec) chunk → fits_in (inner_grid codec) chunk
  chunk_cut chunk is_chunk =
      let dims = inner_dims codec in
      let shape = (inner_of codec).shape in
      let own : contains (whole (regular_grid shape dims).grid_shape) chunk ≡ true =
      subst (λ grid. IsChunk grid chunk) grid_is is_chunk in
      let rank : length shape ≡ length codec.inner_shape.items =
      inner_rank shape dims cut ∙ length-map codec.inner_shape.items non_zero_u64_get in
      subst (λ grid. fits_in grid chunk) (sym grid_is)
      (sizes_are shape codec.inner_shape.items chunk rank own, cut_within shape dims chunk cut own)

  pub chunk_dims : (chunk : List ℕ) → IsChunk (inner_grid codec) chunk →
      chunk_shape (inner_of codec) chunk ≡ inner_dims codec
  chunk_dims chunk is_chunk = (chunk_cut chunk is_chunk).0

  -- how many there are
  pub num_chunks : count_of (inner_grid codec).grid_shape ≡ count (whole (inner_grid codec).grid_shape)
  num_chunks = sym (ap count_of (sizes_whole (inner_grid codec).grid_shape))

  module _ (number : ℕ) (below : number < count_of (inner_grid codec).grid_shape) where
    pub near : number < count (whole (inner_grid codec).grid_shape)
    near = subst (λ n. number < n) num_chunks below

    -- the inner chunk of a number
    pub is_inner : IsChunk (inner_grid codec) (indices_at codec number)
    is_inner = contains-tuple_at (whole (inner_grid codec).grid_shape) number near

    pub numbered : place (whole (inner_grid codec).grid_shape) (indices_at codec number) ≡ number
    numbered = place-tuple_at (whole (inner_grid codec).grid_shape) number near

    pub box_sizes : sizes (box_at codec number) ≡ inner_dims codec
    box_sizes = chunk_dims (indices_at codec number) is_inner

    pub box_count : count (box_at codec number) ≡ count_of (inner_dims codec)
    box_count = ap count_of box_sizes

    pub box_inside : ends_within (box_at codec number) (inner_of codec).shape ≡ true
    box_inside = (chunk_cut (indices_at codec number) is_inner).1

    pub box_rank : length (whole (inner_of codec).shape) ≡ length (box_at codec number)
    box_rank = length-map (inner_of codec).shape _ ∙ sym (covers.box_rank (indices_at codec number) is_inner)

  -- an inner chunk has an element
  pub dims_some : 0 < count_of (inner_dims codec)
  dims_some =
      let is_first = is_inner 0 has_inner in
      subst (λ n. 0 < n) (ap count_of (chunk_dims (indices_at codec 0) is_first))
      (covers.positive (indices_at codec 0) is_first)

  -- its elements can be counted and addressed
  pub dims_fit : (count_of (inner_dims codec) + 1 < 2 ^ 64) ×
      (count_of (inner_dims codec) * size_in (fixed_size (kind (inner_of codec))) < 2 ^ 64)
  dims_fit =
      let is_first = is_inner 0 has_inner in
      subst (λ n. (n + 1 < 2 ^ 64) × (n * size_in (fixed_size (kind (inner_of codec))) < 2 ^ 64)) (ap count_of
      (chunk_dims (indices_at codec 0) is_first)) (chunk_counts codec.shard.inner (indices_at codec 0) is_first)
