-- Fill values: their bytes.
use Rattle.std.specs.Prelude.{ℕ, Bool, true, false, List, [], ◌∷◌, ◌++◌, Option, Some, None}
use Rattle.std.specs.Fmt.{debug_list, decimal}
use Rattle.zarrs_data_type_bytes.specs.declared.fill_value.FillValue.{FillValue}

abbrev pub fill_bytes : FillValue → List ℕ
fill_bytes fill = fill.bytes.items

abbrev pub bool_byte : Bool → ℕ
bool_byte true = 1
bool_byte false = 0

-- the bytes of a value of an optional type: one byte 0 for null, else those of the inner value and
-- one byte 1
abbrev pub option_bytes : Option (List ℕ) → List ℕ
option_bytes None = 0 ∷ []
option_bytes (Some bytes) = bytes ++ 1 ∷ []

-- the text of a fill value: its bytes in decimal as a list, as [0, 1]
abbrev pub fill_text : FillValue → Option (List ℕ)
fill_text fill = debug_list (λ b. Some (decimal b)) (fill_bytes fill)
