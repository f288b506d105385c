-- The views of a target.
use Rattle.std.specs.Prelude.{List, []}
use Rattle.zarrs_codec_array_bytes_parts.specs.declared.array_bytes_fixed_disjoint_view.ArrayBytesFixedDisjointView.{
  ArrayBytesFixedDisjointView,
}
use Rattle.zarrs_codec_array_bytes_parts.specs.declared.decode_into_target.ArrayBytesDecodeIntoTarget.{
  ArrayBytesDecodeIntoTarget,
}
use Rattle.zarrs_codec_array_bytes_parts.specs.declared.decode_into_target.ArrayBytesDecodeIntoTarget.TheVariants as target

-- that of the innermost data
abbrev pub inner_view : ArrayBytesDecodeIntoTarget → ArrayBytesFixedDisjointView
inner_view (target.Fixed inner) = inner.now
inner_view (target.Optional inner masks) = inner.now

-- those of the masks, the outermost first
abbrev pub mask_views : ArrayBytesDecodeIntoTarget → List ArrayBytesFixedDisjointView
mask_views (target.Fixed inner) = []
mask_views (target.Optional inner masks) = masks.now
