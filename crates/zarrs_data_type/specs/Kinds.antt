-- Which data type a kind is, by its name and its configuration.
use Rattle.std.specs.Prelude.{ℕ, ◌/◌, ◌%◌, ◌==◌, ◌&&◌, nat_lt, Bool, if◌then◌else◌, List, [], ◌∷◌, Option, Some, None}
use Rattle.std.specs.Prelude.{option_and_then, Result, Ok, Err}
use Rattle.zarr_model.specs.Element.{DataType, bool_type, int_type, uint_type, raw_type, string_type, bytes_type}
use Rattle.zarrs_plugin.specs.Making.{Unmade, unsupported, config}
use Rattle.zarrs_plugin.specs.Number.{number_of}
use Rattle.zarrs_data_type.specs.declared.data_type.kind.DataTypeKind as kinds
use Rattle.zarrs_data_type.specs.declared.data_type.kind.DataTypeKind.TheVariants as kind

-- what follows a first byte
abbrev pub behind_byte : ℕ → List ℕ → Option (List ℕ)
behind_byte byte [] = None
behind_byte byte (b ∷ bytes) = if b == byte then Some bytes else None

-- so many bits in bytes, if they are a positive multiple of 8
abbrev pub whole_bytes : ℕ → Option ℕ
whole_bytes bits = if nat_lt 0 bits && (bits % 8 == 0) then Some (bits / 8) else None

-- the size in bytes that the name of a raw type says, which is the letter r and the number of bits
abbrev pub raw_size : List ℕ → Option ℕ
raw_size name = option_and_then (λ digits. option_and_then whole_bytes (number_of digits))
    (behind_byte 114 name)

-- a raw type of some size, or no such name
abbrev pub raw_of_size : Option ℕ → Result DataType Unmade
raw_of_size None = Err config
raw_of_size (Some n) = Ok (raw_type n)

-- the type of a name and the kind that it found, over whether the configuration is empty and over
-- the optional type that the configuration says
abbrev pub kind_type : List ℕ → Option kinds.DataTypeKind → Bool → Result DataType Unmade
    → Result DataType Unmade
kind_type name None empty pair = Err (unsupported name)
kind_type name (Some kind.Bool) empty pair = if empty then Ok bool_type else Err config
kind_type name (Some kind.Int8) empty pair = if empty then Ok (int_type 1) else Err config
kind_type name (Some kind.Int16) empty pair = if empty then Ok (int_type 2) else Err config
kind_type name (Some kind.Int32) empty pair = if empty then Ok (int_type 4) else Err config
kind_type name (Some kind.Int64) empty pair = if empty then Ok (int_type 8) else Err config
kind_type name (Some kind.UInt8) empty pair = if empty then Ok (uint_type 1) else Err config
kind_type name (Some kind.UInt16) empty pair = if empty then Ok (uint_type 2) else Err config
kind_type name (Some kind.UInt32) empty pair = if empty then Ok (uint_type 4) else Err config
kind_type name (Some kind.UInt64) empty pair = if empty then Ok (uint_type 8) else Err config
kind_type name (Some kind.RawBits) empty pair =
    if empty then raw_of_size (raw_size name) else Err config
kind_type name (Some kind.String) empty pair = if empty then Ok string_type else Err config
kind_type name (Some kind.Bytes) empty pair = if empty then Ok bytes_type else Err config
kind_type name (Some kind.Optional) empty pair = pair
