-- Which bytes a fill value in a document stands for, by the data type.
use Rattle.std.specs.Prelude.{◌≡◌, ℕ, zero, suc, ℤ, pos, negsuc, ◌-◌, ◌*◌, ◌^◌, ◌==◌, nat_lt, if◌then◌else◌, Bool, true}
use Rattle.std.specs.Prelude.{false, List, [], ◌∷◌, ◌++◌, length, take, slice_index, Option, Some, None, option_map}
use Rattle.std.specs.Prelude.{option_and_then, Result, Ok, Err}
use Rattle.std.specs.Int.{w64, cast_unsigned}
use Rattle.std.specs.Str.{is_utf8}
use Rattle.serde_json.specs.Data.{Data, null, boolean, number, string, array, unsigned, Items, no_items, item}
use Rattle.serde_json.specs.Find.{as_bool, as_number, as_str, as_array, as_u64, as_i64, of_integer}
use Rattle.zarr_model.specs.Element.{DataType, bool_type, int_type, uint_type, raw_type, string_type, bytes_type}
use Rattle.zarr_model.specs.Element.{optional_type}
use Rattle.zarr_model.specs.Codec.{low_bytes, number_of_bytes}
use Rattle.zarrs_metadata_values.specs.FillValueMetadata.{fill_view, bytes_in_items}
use Rattle.zarrs_metadata_values.specs.Writing.{numbers_data}
use Rattle.zarrs_metadata_values.specs.declared.fill_value.FillValueMetadataV3.{FillValueMetadataV3}
use Rattle.zarrs_data_type_bytes.specs.FillValue.{fill_bytes, bool_byte}
use Rattle.zarrs_data_type_bytes.specs.declared.fill_value.FillValue.{FillValue}
use Rattle.zarrs_data_type.specs.declared.fill_metadata.FillMetadataFault.{FillMetadataFault}
use Rattle.zarrs_data_type.specs.declared.fill_metadata.FillMetadataFault.TheVariants.{Metadata, OutOfMemory}
use Rattle.zarrs_data_type.specs.declared.metadata_of_fill.FillFault.{FillFault}
use Rattle.zarrs_data_type.specs.declared.metadata_of_fill.FillFault.TheVariants as fault

-- a boolean is one byte, 0 or 1
abbrev pub bool_bytes : Bool → List ℕ
bool_bytes b = bool_byte b ∷ []

-- a number from 0 on as n bytes, the lowest first, if it is in range
abbrev pub unsigned_bytes : ℕ → ℕ → Option (List ℕ)
unsigned_bytes n m = if nat_lt m (256 ^ n) then Some (low_bytes n m) else None

-- a number is one of n bytes in two's complement, where the last bit tells those below 0
abbrev pub is_in_range : ℕ → ℤ → Bool
is_in_range n (pos m) = nat_lt m (2 ^ (8 * n - 1))
is_in_range n (negsuc m) = nat_lt m (2 ^ (8 * n - 1))

-- such a number as n bytes, the lowest first
abbrev pub signed_bytes : ℕ → ℤ → Option (List ℕ)
signed_bytes n z = if is_in_range n z then Some (low_bytes n (cast_unsigned w64 z)) else None

-- bytes, if there are n of them
abbrev pub of_length : ℕ → List ℕ → Option (List ℕ)
of_length n bytes = if length bytes == n then Some bytes else None

-- a list of bytes, or the empty text
abbrev pub listed_bytes : Data → Option (List ℕ)
listed_bytes (string []) = Some []
listed_bytes d = bytes_in_items (as_array d)

-- the only item of a list
abbrev pub only_item : Option Items → Option Data
only_item None = None
only_item (Some no_items) = None
only_item (Some (item d no_items)) = Some d
only_item (Some (item d (item e ds))) = None

-- a value of the type inside has one byte 1 behind it
abbrev pub some_bytes : List ℕ → List ℕ
some_bytes bytes = bytes ++ 1 ∷ []

-- The bytes of a fill value, if it is one of the type (Zarr v3 core, "Fill value"). Under an
-- optional type it is null, which is one byte 0, or a list of one fill value of the type inside.
abbrev pub fill_of : DataType → Data → Option (List ℕ)
fill_of bool_type d = option_map bool_bytes (as_bool d)
fill_of (int_type n) d = option_and_then (signed_bytes n) (option_and_then as_i64 (as_number d))
fill_of (uint_type n) d = option_and_then (unsigned_bytes n) (option_and_then as_u64 (as_number d))
fill_of (raw_type n) d = option_and_then (of_length n) (bytes_in_items (as_array d))
fill_of string_type d = as_str d
fill_of bytes_type d = listed_bytes d
fill_of (optional_type inner) null = Some (0 ∷ [])
fill_of (optional_type inner) (array (item d no_items)) = option_map some_bytes (fill_of inner d)
fill_of (optional_type inner) _ = None

-- a call gave the bytes of the fill value, or said that it is none of the type, or memory ran out
abbrev pub Fills : Result FillValue FillMetadataFault → Option (List ℕ) → Type 0
Fills (Ok fill) expected = expected ≡ Some (fill_bytes fill)
Fills (Err (Metadata error)) expected = expected ≡ None
Fills (Err OutOfMemory) expected = Unit {0}

-- the number that n bytes are in two's complement
abbrev pub signed_number : ℕ → ℕ → ℤ
signed_number n m = if nat_lt m (2 ^ (8 * n - 1)) then pos m else negsuc (256 ^ n - 1 - m)

-- a value, if there are n bytes
abbrev pub if_length : ℕ → List ℕ → Data → Option Data
if_length n bytes d = if length bytes == n then Some d else None

-- one byte, 0 or 1
abbrev pub byte_as_bool : ℕ → Option Data
byte_as_bool b =
    if b == 0 then Some (boolean false) else if b == 1 then Some (boolean true) else None

abbrev pub bool_data : List ℕ → Option Data
bool_data bytes = if length bytes == 1 then byte_as_bool (slice_index bytes 0) else None

-- null where the last byte is 0, else a list of what the bytes before it denote
abbrev pub optional_fill_data : ℕ → Option Data → Option Data
optional_fill_data zero inner = Some null
optional_fill_data (suc last) inner = option_map (λ d. array (item d no_items)) inner

-- what a document says of the bytes of a fill value, if they denote an element of the type
abbrev pub fill_metadata_of : DataType → List ℕ → Option Data
fill_metadata_of bool_type bytes = bool_data bytes
fill_metadata_of (int_type n) bytes =
    if_length n bytes (number (of_integer (signed_number n (number_of_bytes bytes))))
fill_metadata_of (uint_type n) bytes =
    if_length n bytes (number (unsigned (number_of_bytes bytes)))
fill_metadata_of (raw_type n) bytes = if_length n bytes (numbers_data bytes)
fill_metadata_of string_type bytes = if is_utf8 bytes then Some (string bytes) else None
fill_metadata_of bytes_type bytes = Some (numbers_data bytes)
fill_metadata_of (optional_type inner) [] = None
fill_metadata_of (optional_type inner) (b ∷ bytes) =
    optional_fill_data (slice_index (b ∷ bytes) (length bytes))
    (fill_metadata_of inner (take (length bytes) (b ∷ bytes)))

-- a call gave what a document says, or said that the bytes denote no element, or memory ran out
abbrev pub TellsFill : Result FillValueMetadataV3 FillFault → Option Data → Type 0
TellsFill (Ok metadata) expected = expected ≡ Some (fill_view metadata)
TellsFill (Err (fault.Value error)) expected = expected ≡ None
TellsFill (Err fault.OutOfMemory) expected = Unit {0}
