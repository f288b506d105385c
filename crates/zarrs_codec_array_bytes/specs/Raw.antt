-- What array bytes are in the model.
use Rattle.std.specs.Prelude.{ℕ, List}
use Rattle.std.specs.Cow.{cow_slice_items}
use Rattle.zarr_model.specs.ArrayBytes as bytes
use Rattle.zarrs_codec_array_bytes.specs.declared.array_bytes.ArrayBytes as code
use Rattle.zarrs_codec_array_bytes.specs.declared.array_bytes.ArrayBytesOptional.{ArrayBytesOptional}
use Rattle.zarrs_codec_array_bytes.specs.declared.array_bytes.offsets.ArrayBytesOffsets.{ArrayBytesOffsets}
use Rattle.zarrs_codec_array_bytes.specs.declared.array_bytes.variable_length.ArrayBytesVariableLength.{
  ArrayBytesVariableLength,
}

-- the numbers of offsets
abbrev pub numbers_of : ArrayBytesOffsets → List ℕ
numbers_of offsets = cow_slice_items offsets.numbers

-- the bytes and the offsets of variable-length elements
abbrev pub values_of : ArrayBytesVariableLength → List ℕ
values_of variable = cow_slice_items variable.bytes

abbrev pub offsets_of : ArrayBytesVariableLength → List ℕ
offsets_of variable = numbers_of variable.offsets

abbrev pub variable_of : ArrayBytesVariableLength → bytes.ArrayBytes
variable_of variable = bytes.variable_bytes (values_of variable) (offsets_of variable)

-- array bytes as those of the model
abbrev pub raw_of : code.ArrayBytes → bytes.ArrayBytes
raw_of (code.Fixed fixed) = bytes.fixed_bytes (cow_slice_items fixed)
raw_of (code.Variable variable) = variable_of variable
raw_of (code.Optional' pointer inner mask) =
    bytes.optional_bytes (raw_of inner) (cow_slice_items mask)

-- the data and the mask of optional elements
abbrev pub data_of : ArrayBytesOptional → bytes.ArrayBytes
data_of optional = raw_of optional.inner.value

abbrev pub mask_of : ArrayBytesOptional → List ℕ
mask_of optional = cow_slice_items optional.mask

-- the same as those of the model
abbrev pub optional_of : ArrayBytesOptional → bytes.ArrayBytes
optional_of optional = bytes.optional_bytes (data_of optional) (mask_of optional)
