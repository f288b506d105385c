-- Ranges of bytes in a value.
use Rattle.std.specs.Prelude.{◌≡◌, ℕ, ◌+◌, ◌-◌, ◌^◌, min, Bool, false, nat_le, if◌then◌else◌, List, [], ◌∷◌, length}
use Rattle.std.specs.Prelude.{take, drop, map, Option, Some, None, Vec}
use Rattle.std.specs.List.{concat}
use Rattle.zarrs_storage.specs.declared.byte_range.ByteRange.{ByteRange}
use Rattle.zarrs_storage.specs.declared.byte_range.ByteRange.TheVariants.{FromStart, Suffix}
use Rattle.zarrs_storage.specs.declared.byte_range.InvalidByteRangeError.{InvalidByteRangeError}
use Rattle.zarrs_storage.specs.declared.byte_range.ByteRangeFault.{ByteRangeFault}
use Rattle.zarrs_storage.specs.declared.byte_range.ByteRangeFault.TheVariants.{Invalid, OutOfMemory}

-- whether a range lies within a value of a size
abbrev pub is_valid : ByteRange → ℕ → Bool
is_valid (FromStart offset None) size = nat_le offset size
is_valid (FromStart offset (Some length)) size = nat_le (offset + length) size
is_valid (Suffix length) size = nat_le length size

-- where a range begins in a value of a size
abbrev pub start_in : ByteRange → ℕ → ℕ
start_in (FromStart offset length) size = offset
start_in (Suffix length) size = size - length

-- where a range ends in a value of a size: the first place past it
abbrev pub end_in : ByteRange → ℕ → ℕ
end_in (FromStart offset None) size = size
end_in (FromStart offset (Some length)) size = offset + length
end_in (Suffix length) size = size

-- where a range of a value of a size lies in one that has that value from an offset on
abbrev pub shifted : ℕ → ℕ → ByteRange → ByteRange
shifted offset size range =
    FromStart (offset + start_in range size) (Some (end_in range size - start_in range size))

-- the bytes of a value from one place to another
abbrev pub bytes_between : ℕ → ℕ → List ℕ → List ℕ
bytes_between start end value = take (end - start) (drop start value)

-- the bytes that a range names of a value
abbrev pub slice_of : ByteRange → List ℕ → List ℕ
slice_of range value =
    bytes_between (start_in range (length value)) (end_in range (length value)) value

-- the bytes that each of some ranges names, in order
abbrev pub slices_of : List ByteRange → List ℕ → List (List ℕ)
slices_of ranges value = map (λ range. slice_of range value) ranges

-- how many bytes ranges name together, or the greatest `usize` where they are more
abbrev pub room_of : List ByteRange → List ℕ → ℕ
room_of ranges value = min (length (concat (slices_of ranges value))) (2 ^ 64 - 1)

-- the first range that is not valid
abbrev pub first_invalid : ℕ → List ByteRange → Option ByteRange
first_invalid size [] = None
first_invalid size (range ∷ ranges) =
    if is_valid range size then first_invalid size ranges else Some range

-- the parts of a value, as lists of bytes
abbrev pub parts_of : {Y Z : Type 0} → Vec (Vec ℕ Z) Y → List (List ℕ)
parts_of parts = map (λ part. part.items) parts.items

-- an error tells of this range and size
abbrev pub TellsRange : Option ByteRange → ℕ → InvalidByteRangeError → Type 0
TellsRange range size error = (range ≡ Some error.range) × (error.size ≡ size)

-- the fault is that of the first range that is not valid, or want of memory
abbrev pub IsFirstInvalid : Option ByteRange → ℕ → ByteRangeFault → Type 0
IsFirstInvalid first size (Invalid error) = TellsRange first size error
IsFirstInvalid first size OutOfMemory = Unit {0}

-- the fault is that of this range, which is not valid, or want of memory
abbrev pub IsInvalidRange : ByteRange → ℕ → ByteRangeFault → Type 0
IsInvalidRange range size fault =
    (is_valid range size ≡ false) × IsFirstInvalid (Some range) size fault
