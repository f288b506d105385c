-- Bytes put into a value at their places.
use Rattle.std.specs.Prelude.{ℕ, ◌+◌, ◌-◌, ◌^◌, ◌≤◌, max, List, [], ◌∷◌, ◌++◌, length, take, drop, replicate, Option}
use Rattle.std.specs.Prelude.{Some, None}
use Rattle.zarrs_storage.specs.declared.byte_range.OffsetBytes.{OffsetBytes}

-- the bytes of a value, none where it is absent
abbrev pub held_bytes : Option (List ℕ) → List ℕ
held_bytes None = []
held_bytes (Some value) = value

-- a value with zero bytes at its end, up to a length
abbrev pub filled_to : ℕ → List ℕ → List ℕ
filled_to n value = value ++ replicate (n - length value) 0

-- a value whose bytes from a place on are replaced
abbrev pub replaced_at : ℕ → List ℕ → List ℕ → List ℕ
replaced_at offset bytes value = take offset value ++ bytes ++ drop (offset + length bytes) value

-- the first place past a part
abbrev pub part_end : OffsetBytes → ℕ
part_end part = part.offset + length part.bytes.items

-- a value with a part put in
abbrev pub with_part : OffsetBytes → List ℕ → List ℕ
with_part part value =
    replaced_at part.offset part.bytes.items (filled_to (part_end part) value)

-- a value with each part put in, in order
abbrev pub with_parts : List OffsetBytes → List ℕ → List ℕ
with_parts [] value = value
with_parts (part ∷ parts) value = with_parts parts (with_part part value)

-- the first place past all parts
abbrev pub end_of : List OffsetBytes → ℕ
end_of [] = 0
end_of (part ∷ parts) = max (part_end part) (end_of parts)

-- each part's end fits a `usize`
abbrev pub PartsFit : List OffsetBytes → Type 0
PartsFit parts = end_of parts ≤ 2 ^ 64 - 1
