-- What a view leaves as it was.
use Rattle.std.specs.Prelude.{◌≡◌, ◌<◌, ℕ, false, get_or}
use Rattle.zarrs_codec_traits.specs.Prelude.{Element, count, sizes, contains, tuple_at, whole, region}
use Rattle.zarrs_codec_slices.specs.Elements.{fixed_elements}
use Rattle.zarrs_codec_array_bytes_parts.specs.declared.array_bytes_fixed_disjoint_view.ArrayBytesFixedDisjointView.{
  ArrayBytesFixedDisjointView,
}

-- a view is of the same box of the same bytes, and the elements outside its box are as they were
pub record KeepsOthers (old new : ArrayBytesFixedDisjointView) : Type 0 where
  pub part : new.part ≡ old.part
  pub same_reference : new.bytes.ghost_name ≡ old.bytes.ghost_name
  pub others : (k : ℕ) (d : Element) → k < count (whole (sizes (region old.part.array)))
      → contains (region old.part.subset) (tuple_at (whole (sizes (region old.part.array))) k)
      ≡ false
      → get_or (fixed_elements old.part.size new.bytes.now) k d
      ≡ get_or (fixed_elements old.part.size old.bytes.now) k d
