-- Which array bytes borrow nothing.
use Rattle.std.specs.Prelude.{Bool, true, false, ◌&&◌}
use Rattle.std.specs.declared.borrow.CowSlice.{CowSlice}
use Rattle.std.specs.declared.borrow.CowSlice.TheVariants as slice
use Rattle.zarrs_codec_array_bytes.specs.declared.array_bytes.ArrayBytes as code
use Rattle.zarrs_codec_array_bytes.specs.declared.array_bytes.ArrayBytesOptional.{ArrayBytesOptional}
use Rattle.zarrs_codec_array_bytes.specs.declared.array_bytes.offsets.ArrayBytesOffsets.{ArrayBytesOffsets}
use Rattle.zarrs_codec_array_bytes.specs.declared.array_bytes.variable_length.ArrayBytesVariableLength.{
  ArrayBytesVariableLength,
}

-- a slice that is owned
abbrev pub owns_slice : {X Z : Type 0} → CowSlice X Z → Bool
owns_slice (slice.Borrowed r) = false
owns_slice (slice.Owned v) = true

-- the numbers of offsets are owned
abbrev pub owns_offsets : ArrayBytesOffsets → Bool
owns_offsets offsets = owns_slice offsets.numbers

-- the bytes and the offsets of variable-length elements are
abbrev pub owns_variable : ArrayBytesVariableLength → Bool
owns_variable variable = owns_slice variable.bytes && owns_offsets variable.offsets

-- all bytes, offsets and masks are, on each level
abbrev pub is_owned : code.ArrayBytes → Bool
is_owned (code.Fixed fixed) = owns_slice fixed
is_owned (code.Variable variable) = owns_variable variable
is_owned (code.Optional' pointer inner mask) = is_owned inner && owns_slice mask

-- the same of optional elements
abbrev pub owns_optional : ArrayBytesOptional → Bool
owns_optional optional = is_owned optional.inner.value && owns_slice optional.mask
