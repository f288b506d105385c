-- Where a part of a box lies in it.
use Rattle.std.specs.Prelude.{ℕ, List}
use Rattle.zarr_model.specs.Region.{Region, starts, sizes, tuples}
use Rattle.zarrs_array_subset.specs.Boxes.{moved_back}
use Rattle.zarrs_codec_array_bytes.specs.Selection.{linear}

-- the linear indices of a part's tuples in the shape of the box
abbrev pub shared_in : Region → Region → List ℕ
shared_in box part = linear (sizes box) (tuples (moved_back part (starts box)))
