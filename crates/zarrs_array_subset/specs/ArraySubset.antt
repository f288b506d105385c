-- What a clause sees of an `ArraySubset`.
use Rattle.zarr_model.specs.Region.{Region}
pub use Rattle.zarrs_array_subset.specs.Boxes.{region_of, is_box}
use Rattle.zarrs_array_subset.specs.declared.array_subset.ArraySubset.{ArraySubset}

-- the region that a subset is
abbrev pub region : ArraySubset → Region
region subset = region_of subset.start.items subset.shape.items
