-- All inner chunks of a chunk, put together.
use Rattle.std.specs.Prelude.{◌≡◌, ◌<◌, ℕ, List, length, Option, Some, None, IsSome}
use Rattle.zarrs_codec_traits.specs.Prelude.{Region, count, count_of, kind, Element, Options, Copied}
use Rattle.zarrs_codec_error.specs.declared.error.CodecError.{CodecError}
use Rattle.zarr_array_boxes.specs.BoxElements.{kind_held, box_held, list_held, HoldsShort}
use Rattle.zarr_array_boxes.specs.declared.box_elements.BoxElements.{BoxElements}
use Rattle.zarr_shard_codec.specs.Index.{pair_at}
use Rattle.zarr_shard_codec.specs.Shard.{inner_content}
use Rattle.zarr_shard_codec.specs.Finding.{index_found, index_says}
use Rattle.zarr_shard_codec.specs.ShardCodec.{inner_of, inner_grid, inner_decoded, own_array, InnerSays}
use Rattle.zarr_shard_codec.specs.Inner.{inner_at, found_says}
use Rattle.zarr_shard_codec.specs.Placing.{indices_at}
use Rattle.zarr_shard_codec.specs.declared.shard_codec.ShardCodec.{ShardCodec}

-- the elements of the inner chunk of a number, by an index
abbrev pub inner_content_of : ShardCodec → Options → List ℕ → List ℕ → ℕ → Option (List Element)
inner_content_of codec under value index number =
    inner_content (own_array codec under) value index (indices_at codec number)

-- elements are held over a region of the chunk, none of which is too long for its length to be
-- stored
pub record HoldsOver (codec : ShardCodec) (region : Region) (elements : BoxElements) : Type 0 where
  pub of_kind : kind_held elements ≡ kind (inner_of codec)
  pub over : box_held elements ≡ region
  pub short : HoldsShort elements

-- what an inner chunk shares with a region was put into the region's elements
pub record HasPut (codec : ShardCodec) (under : Options) (value index : List ℕ) (over : Region)
    (chunk : List ℕ) (old new : BoxElements) : Type 0 where
  pub list : List Element
  pub as_long : length list ≡ count ((inner_grid codec).chunk_box chunk)
  pub content : inner_content (own_array codec under) value index chunk ≡ Some list
  pub copied : Copied over ((inner_grid codec).chunk_box chunk) list (list_held old)
      (list_held new)

-- an error tells why the inner chunk of a number does not decode
pub record SaysAt (codec : ShardCodec) (under : Options) (value index : List ℕ) (number : ℕ)
    (e : CodecError) : Type 0 where
  pub fails : inner_at (inner_decoded codec under) value (pair_at index number) ≡ None
  pub said : found_says (InnerSays codec under) value (pair_at index number) e

-- that of the first that does not
pub record SaysInner (codec : ShardCodec) (under : Options) (value index : List ℕ)
    (e : CodecError) : Type 0 where
  pub number : ℕ
  pub below : number < count_of (inner_grid codec).grid_shape
  pub first : (k : ℕ) → k < number → IsSome (inner_content_of codec under value index k)
  pub why : SaysAt codec under value index number e

-- which errors tell that a value decodes to nothing: those of its index, and else of an inner chunk
abbrev pub says_of : Option (List ℕ) → ShardCodec → Options → ℕ → List ℕ → CodecError → Type 0
says_of None codec under number value e = index_says codec.shard.checked number value e
says_of (Some index) codec under number value e = SaysInner codec under value index e

abbrev pub shard_says : ShardCodec → Options → List ℕ → CodecError → Type 0
shard_says codec under value e =
    let number = count_of (inner_of codec).grid.grid_shape in
    says_of (index_found codec.shard.checked under.validate_checksums number value) codec under
    number value e
