-- Boxes whose elements are copied run by run.
use Rattle.std.specs.Prelude.{ℕ}
use Rattle.zarr_model.specs.Region.{Region}
use Rattle.zarrs_array_subset.specs.ArraySubset.{region}
use Rattle.zarrs_codec_array_bytes.specs.declared.array_bytes.rows.Rows.{Rows}

-- the whole array, the box in it, and the size of an element
abbrev pub outer_box : Rows → Region
outer_box rows = region rows.outer

abbrev pub inner_box : Rows → Region
inner_box rows = region rows.subset

abbrev pub row_element_bytes : Rows → ℕ
row_element_bytes rows = rows.size
