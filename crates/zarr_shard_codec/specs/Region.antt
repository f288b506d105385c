-- A region of a shard: what its inner chunks give of it, whatever stands where the region does not
-- reach.
use Rattle.std.specs.Prelude.{◌≡◌, ℕ, ◌+◌, Bool, true, not, nat_le, if◌then◌else◌, List, [], length, map, filter}
use Rattle.std.specs.Prelude.{replicate, Option, Some, None, is_some, option_and_then}
use Rattle.std.specs.List.{list_all, sum_by}
use Rattle.zarr_model.specs.Prelude.{Region, count, count_of, whole, place, ends_within, Element, elements_in, Grid}
use Rattle.zarr_model.specs.Prelude.{chunks_meeting, Layout, Options, stored_array}
use Rattle.zarrs_codec_traits.specs.Words.{select}
use Rattle.zarr_array_open.specs.ShardDocument.{index_size}
use Rattle.zarr_shard_codec.specs.Index.{Pair, index_part, is_absent, pair_at}
use Rattle.zarr_shard_codec.specs.Finding.{index_found}
use Rattle.zarr_shard_codec.specs.Shard.{inner_layout, inner_pairs, inner_content, index_of, shard_list}
use Rattle.zarr_shard_codec.specs.ShardCodec.{inner_of, inner_grid, own_array, own_list}
use Rattle.zarr_shard_codec.specs.declared.shard_codec.ShardCodec.{ShardCodec}

-- each inner chunk that a region meets has elements
abbrev pub met_decode : Layout Element → List ℕ → Region → List ℕ → Bool
met_decode array value region index =
    list_all (λ chunk. is_some (inner_content array value index chunk))
    (chunks_meeting array.grid region)

-- the elements of a region by an index, if they have: at each tuple that of its inner chunk
abbrev pub region_by_index : Layout Element → List ℕ → Region → List ℕ → Option (List Element)
region_by_index array value region index = if met_decode array value region index
    then Some (elements_in region
    (stored_array (inner_layout array value) (inner_pairs array.grid index)))
    else None

-- the elements of a region of a value, if its index is found
abbrev pub region_list : Bool → Bool → Layout Element → Region → List ℕ → Option (List Element)
region_list checked validate array region value =
    option_and_then (region_by_index array value region) (index_of checked validate array value)

-- of a value that decodes they are the region's part of what it decodes to
abbrev pub SelectsRegion : Type 0
SelectsRegion = (checked validate : Bool) (array : Layout Element) (value : List ℕ)
    (list : List Element) (region : Region)
    → shard_list checked validate array value ≡ Some list
    → ends_within region array.shape ≡ true
    → region_list checked validate array region value ≡ Some (select array.shape region list)

-- the same of a codec's own chunks
abbrev pub own_region : ShardCodec → Options → Region → List ℕ → Option (List Element)
own_region codec under region value =
    region_list codec.shard.checked under.validate_checksums (own_array codec under) region value

-- the region of all of a chunk has what the value decodes to, also where that is nothing
abbrev pub WholeIsAll : Type 0
WholeIsAll = (codec : ShardCodec) (under : Options) (value : List ℕ)
    → own_region codec under (whole (inner_of codec).shape) value ≡ own_list codec under value

-- the pairs of the inner chunks of a grid that a region meets and that are there
abbrev pub pairs_met : Grid → Region → List ℕ → List Pair
pairs_met grid region index = filter (λ pair. not (is_absent pair))
    (map (λ chunk. pair_at index (place (whole grid.grid_shape) chunk))
    (chunks_meeting grid region))

-- those that a read of a region takes the inner chunks of, by the index of a value if it is found
abbrev pub pairs_by : Grid → Region → Option (List ℕ) → List Pair
pairs_by grid region None = []
pairs_by grid region (Some index) = pairs_met grid region index

abbrev pub pairs_of : Bool → Bool → Grid → Region → List ℕ → List Pair
pairs_of checked validate grid region value =
    pairs_by grid region (index_found checked validate (count_of grid.grid_shape) value)

-- how many reading calls give a region with elements of what stands under a key, and how many bytes
-- these take: of the index, and of each such inner chunk
abbrev pub shard_asks : Bool → Bool → Grid → Region → Option (List ℕ) → ℕ
shard_asks checked validate grid region None = 1
shard_asks checked validate grid region (Some value) =
    1 + length (pairs_of checked validate grid region value)

abbrev pub shard_taken : Bool → Bool → Grid → Region → Option (List ℕ) → ℕ
shard_taken checked validate grid region None = 0
shard_taken checked validate grid region (Some value) =
    index_size checked (count_of grid.grid_shape)
    + sum_by (λ pair. pair.size) (pairs_of checked validate grid region value)

-- the same pairs of a codec's own chunks
abbrev pub met_pairs : ShardCodec → Region → List ℕ → List Pair
met_pairs codec region index = pairs_met (inner_grid codec) region index

abbrev pub pairs_read : ShardCodec → Options → Region → List ℕ → List Pair
pairs_read codec under region value =
    pairs_of codec.shard.checked under.validate_checksums (inner_grid codec) region value

-- how many bytes an index has, and those of a value's index, and the index
abbrev pub index_len : ShardCodec → ℕ
index_len codec = index_size codec.shard.checked (count_of (inner_grid codec).grid_shape)

abbrev pub own_part : ShardCodec → List ℕ → Option (List ℕ)
own_part codec value = index_part codec.shard.checked (count_of (inner_grid codec).grid_shape) value

abbrev pub own_index : ShardCodec → Options → List ℕ → Option (List ℕ)
own_index codec under value =
    index_of codec.shard.checked under.validate_checksums (own_array codec under) value

-- what a region with elements has by what stands under the chunk's key, the fill where nothing
-- does; and how many reading calls give it, and how many bytes these take
abbrev pub held_region : ShardCodec → Options → Region → Option (List ℕ) → Option (List Element)
held_region codec under region None = Some (replicate (count region) (inner_of codec).fill)
held_region codec under region (Some value) = own_region codec under region value

abbrev pub held_asks : ShardCodec → Options → Region → Option (List ℕ) → ℕ
held_asks codec under region value =
    shard_asks codec.shard.checked under.validate_checksums (inner_grid codec) region value

abbrev pub held_taken : ShardCodec → Options → Region → Option (List ℕ) → ℕ
held_taken codec under region value =
    shard_taken codec.shard.checked under.validate_checksums (inner_grid codec) region value

-- the same of any region: for one without elements nothing is read
abbrev pub region_content : ShardCodec → Options → Region → Option (List ℕ) → Option (List Element)
region_content codec under region value =
    if nat_le 1 (count region) then held_region codec under region value else Some []

abbrev pub region_asks : ShardCodec → Options → Region → Option (List ℕ) → ℕ
region_asks codec under region value =
    if nat_le 1 (count region) then held_asks codec under region value else 0

abbrev pub region_taken : ShardCodec → Options → Region → Option (List ℕ) → ℕ
region_taken codec under region value =
    if nat_le 1 (count region) then held_taken codec under region value else 0
