-- What making offsets gives.
use Rattle.std.specs.Prelude.{◌≡◌, ℕ, List, Some, None, Result, Ok, Err}
use Rattle.zarrs_codec_error.specs.declared.array_bytes_error.ArrayBytesRawOffsetsCreateError.{
  ArrayBytesRawOffsetsCreateError,
}
use Rattle.zarrs_codec_array_bytes.specs.declared.array_bytes.offsets.ArrayBytesOffsets.{ArrayBytesOffsets}
use Rattle.zarrs_codec_array_bytes.specs.Offsets.{offsets_error}
use Rattle.zarrs_codec_array_bytes.specs.Raw.{numbers_of}

-- the numbers as offsets, or why they are none
abbrev pub GivesOffsets : List ℕ → Result ArrayBytesOffsets ArrayBytesRawOffsetsCreateError
    → Type 0
GivesOffsets numbers (Ok offsets) =
    (offsets_error numbers ≡ None) × (numbers_of offsets ≡ numbers)
GivesOffsets numbers (Err error) = offsets_error numbers ≡ Some error
