-- An inner chunk that was fetched, put into a region's elements.
use Rattle.std.proofs.Common.{◌≡◌, ℕ, false, List, Option, Some, None, IsSome, refl, sym, ap, ◌∙◌, subst, subst₂}
use Rattle.zarrs_codec_traits.specs.Prelude.{Region, count, Element, IsChunk, has_long_element, ArrayBytes, meaning}
use Rattle.zarrs_codec_traits.specs.Prelude.{Options, Shown, raw_of, Copied, list_at, at_box}
use Rattle.zarrs_codec_error.specs.declared.error.CodecError.{CodecError}
use Rattle.zarrs_codec_array_bytes.specs.declared.array_bytes.ArrayBytes as code
use Rattle.zarr_array_boxes.specs.Elements.{list_in}
use Rattle.zarr_array_boxes.specs.BoxElements.{kind_held, box_held, list_held}
use Rattle.zarr_array_boxes.specs.declared.box_elements.BoxElements.{BoxElements}
use Rattle.zarr_shard_codec.specs.Index.{Pair, pair_at}
use Rattle.zarr_shard_codec.specs.Inner.{found_says, inner_at}
use Rattle.zarr_shard_codec.specs.MetInner.{HasInner, HasPutInner}
use Rattle.zarr_shard_codec.specs.Placing.{inner_number}
use Rattle.zarr_shard_codec.specs.ReadRegion.{HasCost, NotRead, HasRegion, says_at}
use Rattle.zarr_shard_codec.specs.Shard.{inner_content}
use Rattle.zarr_shard_codec.specs.ShardCodec.{inner_grid, inner_level, inner_decoded, own_level, own_array, InnerSays}
use Rattle.zarr_shard_codec.specs.Whole.{HoldsOver}
use Rattle.zarr_shard_codec.specs.declared.shard_codec.ShardCodec.{ShardCodec}
use Rattle.zarr_shard_codec.proofs.FetchLaws.{unread_as}
use Rattle.zarr_shard_codec.proofs.InnerLaws.{blank_list, content_from, content_is_at, put_there, put_blank}

-- one that was read, or that is not there, put into a region's elements
module _ (codec : ShardCodec) (under : Options) (value index : List ℕ) (region : Region) (chunk : List ℕ)
    (is_chunk : IsChunk (inner_grid codec) chunk) (pair : Pair) (same : pair ≡ pair_at index (inner_number codec chunk))
    (old new : Shown) where
  abbrev box : Region
  box = (inner_grid codec).chunk_box chunk

  abbrev Has : Pair → Option code.ArrayBytes → Type 0
  Has p given = HasInner codec under value p old new given

  pub put_read : (before after : BoxElements) (v : code.ArrayBytes) → HoldsOver codec region before →
      Has pair (Some v) →
      Copied (box_held before) box (list_in (kind_held before) box (raw_of v)) (list_held before) (list_held after) →
      HasPutInner codec under value index region chunk before after old new
  put_read before after v holds has copied =
      let own : Has (pair_at index (inner_number codec chunk)) (Some v) = subst (λ p. Has p (Some v)) same has in
      record {
        put = put_there codec under value index chunk is_chunk (inner_number codec chunk) refl region before after box
            (raw_of v) holds refl own.gives copied;
        cost = own.cost;
      }

  pub put_absent : (before after : BoxElements) (blank : ArrayBytes) → HoldsOver codec region before →
      list_at (inner_level codec) blank ≡ Some (blank_list codec) → Has pair None →
      Copied (box_held before) box (list_in (kind_held before) box blank) (list_held before) (list_held after) →
      HasPutInner codec under value index region chunk before after old new
  put_absent before after blank holds means has copied =
      let own : Has (pair_at index (inner_number codec chunk)) None = subst (λ p. Has p None) same has in
      record {
        put = put_blank codec under value index chunk is_chunk (inner_number codec chunk) refl region before after box
            blank holds refl means own.gives copied;
        cost = own.cost;
      }

  pub put_unread : (e : CodecError) → NotRead (inner_at (inner_decoded codec under) value pair)
      (found_says (InnerSays codec under) value pair) old new e →
      NotRead (inner_content (own_array codec under) value index chunk) (says_at codec under value index chunk) old new
      e
  put_unread e failed =
      let at = pair_at index (inner_number codec chunk) in
      unread_as (inner_content (own_array codec under) value index chunk) (inner_at (inner_decoded codec under) value
      at) (says_at codec under value index chunk) (found_says (InnerSays codec under) value at) old new e
      (λ none told. (
        content_is_at codec under value index chunk is_chunk (inner_number codec chunk) refl
            ∙ ap (content_from (blank_list codec)) none,
        told,
      ))
      (subst (λ p. NotRead (inner_at (inner_decoded codec under) value p) (found_says (InnerSays codec under) value p)
      old new e) same failed)

-- what a region's elements are as array bytes
pub region_read : (codec : ShardCodec) (region : Region) (wanted : Option (List Element))
    (calls bytes : ℕ) (old new : Shown) (elements : BoxElements) (raw : ArrayBytes) → HoldsOver codec region elements →
    wanted ≡ Some (list_held elements) → meaning (kind_held elements) (count (box_held elements)) raw ≡
    Some (list_held elements) → has_long_element raw ≡ false → HasCost calls bytes old new →
    HasRegion codec region wanted calls bytes old new raw
region_read codec region wanted calls bytes old new elements raw holds is means short cost =
    let at : list_at (at_box region (own_level codec)) raw ≡ Some (list_held elements) =
    subst₂ (λ k b. meaning k (count b) raw ≡ Some (list_held elements)) holds.of_kind holds.over means in
    record {
      elements = record { same = at ∙ sym is; there = subst IsSome (sym at) refl };
      short = short;
      cost = cost;
    }
