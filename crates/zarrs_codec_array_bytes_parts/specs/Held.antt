-- The elements that views and targets hold.
use Rattle.std.specs.Prelude.{◌≡◌, ℕ, List, [], ◌∷◌, length, get_or, flat_map}
use Rattle.zarr_model.specs.Prelude.{Element, null, Kind, fixed, optional, count, sizes, linear_index, Array}
use Rattle.zarr_model.specs.Prelude.{elements_in, bytes_of, mask_over}
use Rattle.zarrs_array_subset.specs.ArraySubset.{region}
use Rattle.zarrs_codec_slices.specs.Elements.{fixed_elements}
use Rattle.zarrs_codec_array_bytes_parts.specs.declared.array_bytes_fixed_disjoint_view.ArrayBytesFixedDisjointView.{
  ArrayBytesFixedDisjointView,
}

-- the array whose elements a view's bytes are, one after another in row-major order; null past them
abbrev pub view_array : ArrayBytesFixedDisjointView → Array Element
view_array view = record {
  shape = sizes (region view.part.array);
  fill = null;
  element = λ tuple. get_or (fixed_elements view.part.size view.bytes.now)
      (linear_index (sizes (region view.part.array)) tuple) null;
}

-- the elements of a view's box, in row-major order, and their bytes
abbrev pub box_elements : ArrayBytesFixedDisjointView → List Element
box_elements view = elements_in (region view.part.subset) (view_array view)

abbrev pub view_box_bytes : ArrayBytesFixedDisjointView → List ℕ
view_box_bytes view = flat_map bytes_of (box_elements view)

-- the elements of a target: those of the innermost data, under each level's mask
abbrev pub held_by : List ArrayBytesFixedDisjointView → ArrayBytesFixedDisjointView → List Element
held_by [] inner = box_elements inner
held_by (view ∷ views) inner = mask_over (view_box_bytes view) (held_by views inner)

-- a view's box has so many elements of this size
pub record HasViewElements (size number : ℕ) (view : ArrayBytesFixedDisjointView) : Type 0 where
  pub sized : view.part.size ≡ size
  pub counted : count (region view.part.subset) ≡ number

-- a target is for so many elements of a kind: a view of one-byte elements for each mask, and one of
-- the innermost elements
abbrev pub IsTargetOf : Kind → ℕ → List ArrayBytesFixedDisjointView
    → ArrayBytesFixedDisjointView → Type 0
IsTargetOf (fixed size) number [] inner = HasViewElements size number inner
IsTargetOf (optional kind) number (view ∷ views) inner =
    HasViewElements 1 number view × IsTargetOf kind number views inner
IsTargetOf _ number views inner = ⊥

-- each view of a target has all its array's bytes
abbrev pub HaveBytes : List ArrayBytesFixedDisjointView → ArrayBytesFixedDisjointView → Type 0
HaveBytes [] inner = length inner.bytes.now ≡ inner.part.array_len
HaveBytes (view ∷ views) inner =
    (length view.bytes.now ≡ view.part.array_len) × HaveBytes views inner
