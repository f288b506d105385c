-- What the document of a sharded array says of its chunks, by their codec.
use Rattle.std.proofs.Common.{◌≡◌, ◌∙◌, ℕ, ◌<◌, nat_le, if◌then◌else◌, true, List, [], replicate, Option, Some, None}
use Rattle.std.proofs.Common.{is_some, sym, ap}
use Rattle.std.proofs.lemmas.Bool.{le-leb}
use Rattle.zarr_model.specs.Prelude.{Region, sizes, count, count_of, whole, Element, kind, Grid, IsChunk, Level}
use Rattle.zarr_model.specs.Prelude.{Options, meaning, ArrayBytes, box_content, layout}
use Rattle.zarr_model.proofs.RegionLaws.{sizes_whole}
use Rattle.zarr_basics.specs.GridForms.{ChunkGrid}
use Rattle.zarrs_codec_traits.specs.Words.{list_at}
use Rattle.zarr_array_open.specs.ChunkLevels.{shape_level, chunk_level}
use Rattle.zarr_array_open.specs.Document.{ArrayDocument, describe}
use Rattle.zarr_array_open.specs.Parts as parts
use Rattle.zarr_array.specs.Access.{Cost}
use Rattle.zarr_array.specs.Asked.{finds_asked}
use Rattle.zarr_array.specs.Chunk.{decode_at}
use Rattle.zarr_shard_codec.specs.Region.{region_list, own_region, held_region, held_asks, held_taken, shard_asks}
use Rattle.zarr_shard_codec.specs.Region.{shard_taken, region_content, region_asks, region_taken}
use Rattle.zarr_shard_codec.specs.Shard.{inner_array, decode_shard}
use Rattle.zarr_shard_codec.specs.ShardCodec.{inner_of, own_level, own_array, own_list}
use Rattle.zarr_shard_codec.specs.declared.shard_codec.ShardCodec.{ShardCodec}
use Rattle.zarr_shard_codec.proofs.CodecFacts.{regular_of, grid_is, meaning_is}
use Rattle.zarr_shard_codec.proofs.RegionLaws.{whole_is_all}
use Rattle.zarr_shard.specs.Access.{shard_cost}
use Rattle.zarr_shard.specs.ShardArray.{inner_document, inner_meaning, document_inner_form, document_meaning}
use Rattle.zarr_shard.specs.ShardArray.{documented_shards, described_shards}
use Rattle.zarr_shard.specs.declared.array.ShardArray.{ShardArray}
use Rattle.zarr_shard.proofs.ShapeLaws.{chunk_sizes}

-- a region that has elements
module _ (codec : ShardCodec) (under : Options) (region : Region) (value : Option (List ℕ))
    (some : 0 < count region) where
  there : nat_le 1 (count region) ≡ true
  there = le-leb 1 (count region) some

  pub content_held : region_content codec under region value ≡ held_region codec under region value
  content_held = ap (λ b. if b then held_region codec under region value else Some []) there

  pub asks_held : region_asks codec under region value ≡ held_asks codec under region value
  asks_held = ap (λ b. if b then held_asks codec under region value else 0) there

  pub taken_held : region_taken codec under region value ≡ held_taken codec under region value
  taken_held = ap (λ b. if b then held_taken codec under region value else 0) there

module _ (array : ShardArray) where
  abbrev codec : ShardCodec
  codec = array.codec

  -- the lengths of a chunk
  abbrev pub dims : List ℕ
  dims = (inner_of array.codec).shape

  -- a chunk as an array of its inner chunks is that of the codec
  inner_is : inner_document (documented_shards array) ≡ parts.documented_parts codec.shard.inner
  inner_is = ap (λ (grid : ChunkGrid). record (parts.documented_parts codec.shard.inner) { grid = grid })
      (sym (regular_of (parts.documented_parts codec.shard.inner).grid codec.shard.regular))

  -- so a box of a chunk costs what the codec says
  abbrev cost_by : Options → Region → Option (List ℕ) → ArrayDocument → Cost
  cost_by under within value document = record {
    asks = shard_asks codec.shard.checked under.validate_checksums (describe document).grid within value;
    taken = shard_taken codec.shard.checked under.validate_checksums (describe document).grid within value;
  }

  pub cost_is : (under : Options) (chunk : List ℕ) (within : Region) (value : Option (List ℕ)) →
      shard_cost (documented_shards array) under chunk within value ≡
      record { asks = held_asks codec under within value; taken = held_taken codec under within value }
  cost_is under chunk within value = ap (cost_by under within value) inner_is

  -- a value decodes to what the codec says
  abbrev by_dims : Options → List ℕ → List ℕ → Option (List Element)
  by_dims under value lengths = decode_shard (record { inner_shape = lengths; checked = codec.shard.checked })
      under.validate_checksums (inner_meaning (documented_shards array) under) (own_level codec) value

  own_meaning : (under : Options) (value : List ℕ) →
      document_meaning (documented_shards array) under (own_level codec) value ≡ own_list codec under value
  own_meaning under value = ap (by_dims under value) codec.dims ∙ meaning_is codec under value

  -- and holds the regions that it says
  abbrev region_by : Options → Region → List ℕ → List ℕ → Option (List Element)
  region_by under within value lengths =
      region_list codec.shard.checked under.validate_checksums
      (inner_array (record { inner_shape = lengths; checked = codec.shard.checked })
      (inner_meaning (documented_shards array) under) (own_level codec)) within value

  abbrev region_in : Options → Region → List ℕ → Grid → Option (List Element)
  region_in under within value grid = region_list codec.shard.checked under.validate_checksums
      (record (own_array codec under) { grid = grid }) within value

  own_part : (under : Options) (within : Region) (value : List ℕ) →
      region_list codec.shard.checked under.validate_checksums
      (inner_array (document_inner_form (documented_shards array)) (inner_meaning (documented_shards array) under)
      (own_level codec)) within value ≡ own_region codec under within value
  own_part under within value =
      ap (region_by under within value) codec.dims ∙ ap (region_in under within value) (sym (grid_is codec))

  module _ (chunk : List ℕ) (is_chunk : IsChunk (described_shards array).grid chunk) where
    abbrev pub box : Region
    box = (described_shards array).grid.chunk_box chunk

    pub box_is : sizes box ≡ dims
    box_is = chunk_sizes array.grid dims chunk array.form is_chunk

    pub box_count : count box ≡ count_of dims
    box_count = ap count_of box_is

    pub whole_count : count (whole dims) ≡ count box
    whole_count = ap count_of (sizes_whole dims) ∙ sym box_count

    pub level_is : chunk_level (described_shards array) chunk ≡ own_level codec
    level_is = ap (shape_level (inner_of codec)) box_is

    pub decodes_as : (under : Options) (value : List ℕ) →
        decode_at (described_shards array) chunk under value ≡ own_list codec under value
    decodes_as under value = ap (λ (level : Level). document_meaning (documented_shards array) under level value)
        level_is ∙ own_meaning under value

    pub finds_as : (under : Options) (within : Region) (value : List ℕ) → finds_asked (described_shards array) under
        chunk (Some within) (Some value) ≡ is_some (own_region codec under within value)
    finds_as under within value =
        ap (λ (level : Level). is_some (region_list codec.shard.checked under.validate_checksums
        (inner_array (document_inner_form (documented_shards array)) (inner_meaning (documented_shards array) under)
        level) within value)) level_is
        ∙ ap is_some (own_part under within value)

    -- what stands under its key is what the codec has of all of it
    pub content_as : (under : Options) (value : Option (List ℕ)) →
        box_content (layout (described_shards array) under) box value ≡ held_region codec under (whole dims) value
    content_as under None = ap (λ n. Some (replicate n (inner_of codec).fill)) (sym whole_count)
    content_as under (Some value) = decodes_as under value ∙ sym (whole_is_all codec under value)

    -- array bytes of it mean what they do to the codec
    pub means_as : (raw : ArrayBytes) →
        list_at (own_level codec) raw ≡ meaning (kind (described_shards array)) (count box) raw
    means_as raw = ap (λ n. meaning (kind (described_shards array)) n raw) (sym box_count)
