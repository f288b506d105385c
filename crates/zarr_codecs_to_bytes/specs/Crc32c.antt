-- CRC-32C of bytes, bit by bit, and bytes with it behind them.
use Rattle.std.specs.Prelude.{ℕ, zero, suc, ◌-◌, ◌/◌, ◌%◌, ◌==◌, ◌&&◌, ◌||◌, not, nat_le, if◌then◌else◌, Bool, List, []}
use Rattle.std.specs.Prelude.{◌∷◌, length, take, drop, bytes_eq, bit_xor, Option, Some, None}
use Rattle.zarr_model.specs.Codec.{low_bytes}

-- one step of the register, by the bit that leaves it
abbrev pub bit_step : ℕ → ℕ
bit_step register =
    if register % 2 == 1 then bit_xor (register / 2) 2197175160 else register / 2

abbrev pub bit_steps : ℕ → ℕ → ℕ
bit_steps zero register = register
bit_steps (suc n) register = bit_steps n (bit_step register)

-- a byte is joined to the lowest bits, and eight steps follow
abbrev pub byte_step : ℕ → ℕ → ℕ
byte_step register byte = bit_steps 8 (bit_xor register byte)

abbrev pub register_after : ℕ → List ℕ → ℕ
register_after register [] = register
register_after register (byte ∷ bytes) = register_after (byte_step register byte) bytes

-- the number of bytes: the register begins with all bits set, and all are turned in the end
abbrev pub crc32c : List ℕ → ℕ
crc32c bytes = 4294967295 - register_after 4294967295 bytes

abbrev pub crc32c_bytes : List ℕ → List ℕ
crc32c_bytes bytes = low_bytes 4 (crc32c bytes)

-- the last four bytes are the number of those before them
abbrev pub ends_in_crc32c : List ℕ → Bool
ends_in_crc32c value =
    bytes_eq (crc32c_bytes (take (length value - 4) value)) (drop (length value - 4) value)

-- all but the last four bytes, which are right where checksums are validated
abbrev pub crc32c_codec : Bool → List ℕ → Option (List ℕ)
crc32c_codec validate value =
    if nat_le 4 (length value) && (not validate || ends_in_crc32c value)
    then Some (take (length value - 4) value) else None
