-- Parts of an encoded value.
use Rattle.std.specs.Prelude.{◌≡◌, ℕ, ◌==◌, if◌then◌else◌, List, [], ◌∷◌, length, Option, Some, None}
use Rattle.zarrs_storage.specs.declared.byte_range.ByteRange.{ByteRange}
use Rattle.zarrs_storage.specs.declared.byte_range.ByteRange.TheVariants.{FromStart, Suffix}
use Rattle.zarrs_storage.specs.ByteRange.{slices_of}
use Rattle.zarrs_codec_array_bytes.specs.Refusals.{BytesAnswer, fine, wrong_length, then_answer}

-- the parts of a value that a request names, or the whole value where it names none
abbrev pub ArePartsOf : Option (List ByteRange) → List ℕ → List (List ℕ) → Type 0
ArePartsOf None value parts = parts ≡ value ∷ []
ArePartsOf (Some ranges) value parts = parts ≡ slices_of ranges value

-- as many parts as a request names
abbrev pub IsAnswer : Option (List ByteRange) → List (List ℕ) → Type 0
IsAnswer None parts = length parts ≡ 1
IsAnswer (Some ranges) parts = length parts ≡ length ranges

-- a part has the length that its range names, or another one is told
abbrev pub length_answer : ByteRange → List ℕ → BytesAnswer
length_answer (FromStart offset None) part = fine
length_answer (FromStart offset (Some n)) part =
    if length part == n then fine else wrong_length (length part) n
length_answer (Suffix n) part = if length part == n then fine else wrong_length (length part) n

-- the first part of another length than its range names
abbrev pub part_lengths_answer : List ByteRange → List (List ℕ) → BytesAnswer
part_lengths_answer (range ∷ ranges) (part ∷ parts) =
    then_answer (length_answer range part) (part_lengths_answer ranges parts)
part_lengths_answer ranges parts = fine

-- what is told of the parts that a request names
abbrev pub request_answer : Option (List ByteRange) → List (List ℕ) → BytesAnswer
request_answer None parts = fine
request_answer (Some ranges) parts = part_lengths_answer ranges parts
