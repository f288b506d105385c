use Rattle.std.proofs.Common.{◌≡◌, ◌∷◌, ◌++◌, drop}
use Rattle.zarr_model.specs.Region.{whole}
use Rattle.zarrs_array_subset.specs.Boxes.{region_of_ranges}
use Rattle.zarr_rechunk.specs.Spans.{range_span}
use Rattle.zarr_rechunk.proofs.bands.box_over.Given as goal

abbrev pub invariant-loop-length : goal.invariant-loop-length
invariant-loop-length l =
    region_of_ranges l.ranges.items ++ whole (drop l.length-index l.shape) ≡ range_span l.fn.first ∷ whole l.shape
