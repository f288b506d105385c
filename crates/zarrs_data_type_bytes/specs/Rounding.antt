-- Rounding of whole numbers to some leading binary digits.
use Rattle.std.specs.Prelude.{ℕ, ◌+◌, ◌-◌, ◌*◌, ◌/◌, ◌%◌, ◌^◌, min, nat_lt, if◌then◌else◌, List, length}
use Rattle.std.specs.Int.{w64, leading_zeros}
use Rattle.zarr_model.specs.Codec.{number_of_bytes, low_bytes}
use Rattle.zarrs_data_type_bytes.specs.Pieces.{in_pieces}

-- how many binary digits a number below 2 ^ 64 has
abbrev pub binary_digits : ℕ → ℕ
binary_digits x = 64 - leading_zeros w64 x

-- without its low m digits: half of 2 ^ m less one is added, and one more where digit m is 1, which
-- gives the nearest such number, and of two the even one; the sum stops at the greatest
abbrev pub without_low : ℕ → ℕ → ℕ → ℕ
without_low m greatest x = min greatest (x + (2 ^ (m - 1) - 1 + x / 2 ^ m % 2)) / 2 ^ m * 2 ^ m

-- a number of so many bytes with all but its `keep` leading digits dropped
abbrev pub rounded : ℕ → ℕ → ℕ → ℕ
rounded keep size x =
    if nat_lt keep (binary_digits x)
    then without_low (binary_digits x - keep) (256 ^ size - 1) x else x

abbrev pub rounded_bytes : ℕ → ℕ → List ℕ → List ℕ
rounded_bytes keep size bytes = low_bytes size (rounded keep size (number_of_bytes bytes))

-- each whole element of so many bytes is rounded, and the rest past the last one stays
abbrev pub elements_rounded : ℕ → ℕ → List ℕ → List ℕ
elements_rounded keep size bytes =
    in_pieces (rounded_bytes keep size) (length bytes / size) size bytes
