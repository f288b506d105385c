-- A shard's elements by its inner chunks.
use Rattle.std.proofs.Common.{◌≡◌, ℕ, Bool, true, false, List, get_or, Some, option_and_then, refl, sym, ap, ◌∙◌}
use Rattle.zarr_model.specs.Prelude.{Region, whole, place, ends_within, Element, null, Array, elements_in, Layout}
use Rattle.zarr_model.specs.Prelude.{stored_array}
use Rattle.zarr_model.proofs.ArrayLaws.{inside_shape}
use Rattle.zarr_model.proofs.SessionLaws.{elements_in-agree}
use Rattle.zarr_model.proofs.StoreLaws.{stored-at}
use Rattle.zarrs_codec_traits.specs.Words.{select}
use Rattle.zarr_array_boxes.proofs.ReadLaws.{element_at}
use Rattle.zarr_shard_codec.specs.Shard.{inner_layout, inner_pairs, all_decode, by_index, index_of, shard_list}
use Rattle.zarr_shard_codec.specs.Agree.{ElementIsInner, SelectsInner}

-- a selection of a whole list of an array is the region's
pub select_whole : (shape : List ℕ) (region : Region) (array : Array Element) → ends_within region shape ≡ true →
    select shape region (elements_in (whole shape) array) ≡ elements_in region array
select_whole shape region array inside = elements_in-agree region (record array {
  element = λ tuple. get_or (elements_in (whole shape) array) (place (whole shape) tuple) null;
}) array
    (λ tuple here. element_at (whole shape) array tuple null (inside_shape region shape tuple inside here))

module _ (checked validate : Bool) (array : Layout Element) (value : List ℕ) where
  abbrev held : List ℕ → Array Element
  held index = stored_array (inner_layout array value) (inner_pairs array.grid index)

  by_index_is : (index : List ℕ) (list : List Element) (all : Bool) → all_decode array value index ≡ all →
      by_index array value index ≡ Some list → list ≡ elements_in (whole array.shape) (held index)
  by_index_is index list true is e = cc
  by_index_is index list false is e = cc

  -- what decodes is the array that the inner chunks hold
  pub shard_is : (index : List ℕ) (list : List Element) → index_of checked validate array value ≡ Some index →
      shard_list checked validate array value ≡ Some list → list ≡ elements_in (whole array.shape) (held index)
  shard_is index list at e = by_index_is index list (all_decode array value index) refl
      (sym (ap (option_and_then (by_index array value)) at) ∙ e)

pub element_is_inner : ElementIsInner
element_is_inner checked validate array value index list elements chunk tuple d covers at decodes is_chunk here inside
    content =
    ap (λ l. get_or l (place (whole array.shape) tuple) d) (shard_is checked validate array value index list at decodes)
    ∙ element_at (whole array.shape) (held checked validate array value index) tuple d inside
    ∙ stored-at (inner_layout array value) covers (inner_pairs array.grid index) chunk tuple elements is_chunk here
    content

pub selects_inner : SelectsInner
selects_inner checked validate array value index list region at decodes inside =
    ap (select array.shape region) (shard_is checked validate array value index list at decodes)
    ∙ select_whole array.shape region (held checked validate array value index) inside
