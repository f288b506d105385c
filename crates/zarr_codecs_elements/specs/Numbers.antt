-- Numbers in bytes, and an offset that is put on them or taken off.
use Rattle.std.specs.Prelude.{◌≡◌, ℕ, ◌+◌, ◌/◌, ◌^◌, ◌%◌, ℤ, pos, negsuc, Bool, true, false, if◌then◌else◌, List}
use Rattle.std.specs.Prelude.{length, flat_map}
use Rattle.zarr_model.specs.ArrayBytes.{pieces}
use Rattle.zarr_model.specs.Codec.{number_of_bytes, low_bytes, less_offset, opposite}

-- a distance from 0 upwards, or from -1 downwards
abbrev pub integer_of : Bool → ℕ → ℤ
integer_of below distance = if below then negsuc distance else pos distance

-- the offset that decoding takes off, or that encoding does
abbrev pub taken_off : Bool → ℤ → ℤ
taken_off true offset = offset
taken_off false offset = opposite offset

-- each piece of n bytes changed by itself
unfoldable pub each_piece : (List ℕ → List ℕ) → ℕ → List ℕ → List ℕ
each_piece change n value = flat_map change (pieces (length value / n) n value)

-- the number in some bytes and more, in as many bytes
unfoldable pub raised : ℕ → List ℕ → List ℕ
raised amount piece = low_bytes (length piece) (number_of_bytes piece + amount)

-- the number in some bytes less an offset, in as many bytes
abbrev pub bytes_less : ℤ → List ℕ → List ℕ
bytes_less offset value =
    low_bytes (length value) (less_offset (256 ^ length value) offset (number_of_bytes value))

-- adding so much is taking an offset off, modulo a number
abbrev pub TakesOff : ℕ → ℤ → ℕ → Type 0
TakesOff modulus offset amount =
    (number : ℕ) → less_offset modulus offset number ≡ (number + amount) % modulus
