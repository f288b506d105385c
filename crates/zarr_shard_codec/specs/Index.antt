-- The index at the end of a shard: a place for each inner chunk.
use Rattle.std.specs.Prelude.{ℕ, ◌+◌, ◌-◌, ◌*◌, ◌^◌, Bool, true, false, ◌==◌, ◌&&◌, nat_le, if◌then◌else◌, List, ◌++◌}
use Rattle.std.specs.Prelude.{length, take, drop, Option, Some, None, flat_map}
use Rattle.zarr_model.specs.Codec.{number_of_bytes, low_bytes}
use Rattle.zarr_array_open.specs.ShardDocument.{index_size}
use Rattle.zarr_codecs_to_bytes.specs.Crc32c.{crc32c_bytes, crc32c_codec}

-- where an inner chunk lies in the value, if it is there
pub record Pair : Type 0 where
  pub offset : ℕ
  pub size : ℕ

-- sixteen bytes: the offset and the length, the lowest byte first
abbrev pub pair_of : List ℕ → Pair
pair_of bytes = record {
  offset = number_of_bytes (take 8 bytes);
  size = number_of_bytes (take 8 (drop 8 bytes));
}

-- the bytes of a pair
abbrev pub pair_bytes : Pair → List ℕ
pair_bytes pair = low_bytes 8 pair.offset ++ low_bytes 8 pair.size

-- the pair of an inner chunk that is not there
abbrev pub absent_pair : Pair
absent_pair = record { offset = 2 ^ 64 - 1; size = 2 ^ 64 - 1 }

-- which one pair is
abbrev pub is_absent : Pair → Bool
is_absent pair = (pair.offset == 2 ^ 64 - 1) && (pair.size == 2 ^ 64 - 1)

-- it lies within a value of this length
abbrev pub lies_within : ℕ → Pair → Bool
lies_within len pair = nat_le (pair.offset + pair.size) len

-- the pairs that the bytes of an index hold, if their number is right where it is tested
abbrev pub index_in : Bool → Bool → List ℕ → Option (List ℕ)
index_in false validate bytes = Some bytes
index_in true validate bytes = crc32c_codec validate bytes

-- the bytes of a value that a pair names, if they lie within it
abbrev pub part_of : List ℕ → Pair → Option (List ℕ)
part_of value pair = if lies_within (length value) pair
    then Some (take pair.size (drop pair.offset value)) else None

-- the last bytes of a value, as many as an index has, if there are so many
abbrev pub index_part : Bool → ℕ → List ℕ → Option (List ℕ)
index_part checked n value = if nat_le (index_size checked n) (length value)
    then Some (drop (length value - index_size checked n) value) else None

-- the bytes of the pair of a number in an index, and the pair
abbrev pub pair_part : List ℕ → ℕ → List ℕ
pair_part index k = take 16 (drop (16 * k) index)

abbrev pub pair_at : List ℕ → ℕ → Pair
pair_at index k = pair_of (pair_part index k)

-- an index with its number behind it, or without
abbrev pub index_ended : Bool → List ℕ → List ℕ
index_ended false pairs = pairs
index_ended true pairs = pairs ++ crc32c_bytes pairs

-- an index as it is written
abbrev pub index_bytes : Bool → List Pair → List ℕ
index_bytes checked pairs = index_ended checked (flat_map pair_bytes pairs)
