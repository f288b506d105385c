-- The two lists of a box.
use Rattle.std.proofs.Common.{◌≡◌, ℕ, true, List, ap₂, ◌∙◌}
use Rattle.zarr_model.specs.Region.{starts, sizes}
use Rattle.zarrs_array_subset.specs.Boxes.{is_box, region_of}
use Rattle.zarrs_array_subset.proofs.BoxLaws.{starts_region, sizes_region}

-- the two lists of a subset are a box
pub parts_box : (start shape : List ℕ) → is_box start shape ≡ true →
    (is_box (starts (region_of start shape)) (sizes (region_of start shape)) ≡ true)
    × (region_of (starts (region_of start shape)) (sizes (region_of start shape)) ≡ region_of start shape)
parts_box start shape box = (
  ap₂ is_box (starts_region start shape box) (sizes_region start shape box) ∙ box,
  ap₂ region_of (starts_region start shape box) (sizes_region start shape box),
)

pub ruleset of_subsets = (parts_box)
