-- The size of the elements of a data type.
use Rattle.std.specs.Prelude.{ℕ, Option, Some, None}
use Rattle.zarr_model.specs.declared.data_type_size.DataTypeSize.{DataTypeSize}
use Rattle.zarr_model.specs.declared.data_type_size.DataTypeSize.TheVariants.{Fixed, Variable}

-- the size in bytes, if all elements have one
abbrev pub size_seen : DataTypeSize → Option ℕ
size_seen (Fixed n) = Some n
size_seen Variable = None
