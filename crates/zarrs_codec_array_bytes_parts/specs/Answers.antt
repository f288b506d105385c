-- Why a view is made or not.
use Rattle.std.specs.Prelude.{◌≡◌, ℕ, ◌*◌, ◌^◌, ◌-◌, min, ◌==◌, ◌⊎◌, if◌then◌else◌, List, Result, Ok, Err}
use Rattle.zarr_model.specs.Region.{Region, whole, count_of, ends_within}
use Rattle.zarrs_array_subset.specs.Boxes.{is_within}
use Rattle.zarrs_array_subset.specs.ArraySubset.{region}
use Rattle.zarrs_codec_error.specs.declared.array_bytes_error.ArrayBytesFixedDisjointViewCreateError.{
  ArrayBytesFixedDisjointViewCreateError,
}
use Rattle.zarrs_codec_error.specs.declared.array_bytes_error.ArrayBytesFixedDisjointViewCreateError.TheVariants as create

-- done; a box is not within another; bytes are so many in place of so many; or there is no memory
pub data ViewAnswer : Type 0 where
  done : ViewAnswer
  outside : Region → Region → ViewAnswer
  other_length : ℕ → ℕ → ViewAnswer
  no_memory : ViewAnswer

abbrev pub error_answer : ArrayBytesFixedDisjointViewCreateError → ViewAnswer
error_answer (create.SubsetOutOfBounds e) = outside (region e.subset) (region e.must_be_within)
error_answer (create.InvalidBytesLength e) = other_length e.len e.expected_len
error_answer create.OutOfMemory = no_memory

-- bytes must be as many elements as this; a number past 64 bits is told as the greatest
abbrev pub view_length_answer : ℕ → ℕ → ℕ → ViewAnswer
view_length_answer num_elements size len =
    if len == num_elements * size then done
    else other_length len (min (num_elements * size) (2 ^ 64 - 1))

-- that of a view of a box of an array of this shape, whose bytes are so many
abbrev pub create_answer : Region → List ℕ → ℕ → ℕ → ViewAnswer
create_answer subset shape size len =
    if ends_within subset shape then view_length_answer (count_of shape) size len
    else outside subset (whole shape)

-- that of a view of a box in a view's box
abbrev pub view_part_answer : Region → Region → ViewAnswer
view_part_answer subset within = if is_within subset within then done else outside subset within

-- that of writing bytes, which must be so many elements, into a box in a view's box
abbrev pub write_answer : Region → Region → ℕ → ℕ → ℕ → ViewAnswer
write_answer subset within num_elements size len =
    if is_within subset within then (if len == num_elements * size then done
    else other_length len (num_elements * size)) else outside subset within

-- a call answers so, but for want of memory
abbrev pub AnswersView : {T : Type 0} → ViewAnswer → Result T ArrayBytesFixedDisjointViewCreateError
    → Type 0
AnswersView wanted (Ok v) = wanted ≡ done
AnswersView wanted (Err e) = (e ≡ create.OutOfMemory) ⊎ (error_answer e ≡ wanted)
