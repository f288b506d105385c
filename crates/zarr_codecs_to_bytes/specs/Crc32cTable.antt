-- Tables of the CRC32C checksum: what some of its bit steps make of each number below 256.
use Rattle.std.specs.Prelude.{◌≡◌, ◌<◌, ◌+◌, ◌*◌, ℕ, zero, suc, List, [], ◌∷◌, map, slice_index, get_or}
use Rattle.zarr_codecs_to_bytes.specs.Crc32c.{bit_steps}

-- eight steps of each of some numbers, one after another
abbrev pub steps_from : ℕ → ℕ → List ℕ
steps_from zero first = []
steps_from (suc n) first = bit_steps 8 first ∷ steps_from n (suc first)

-- eight steps more of each entry
abbrev pub eight_more : List ℕ → List ℕ
eight_more table = map (bit_steps 8) table

-- a table holds at each byte what some steps make of it
abbrev pub IsTableOf : ℕ → List ℕ → Type 0
IsTableOf steps table = (byte : ℕ) → byte < 256 → slice_index table byte ≡ bit_steps steps byte

-- eight tables: of 8, 16 and up to 64 steps
abbrev pub AreTables : List (List ℕ) → Type 0
AreTables tables = (k : ℕ) → k < 8 → IsTableOf (8 * k + 8) (get_or tables k [])
