-- The levels of array bytes.
use Rattle.std.specs.Prelude.{ℕ, Bool, true, false, List, length, Option, Some, None}
use Rattle.zarr_model.specs.ArrayBytes.{ArrayBytes, fixed_bytes, variable_bytes, optional_bytes}

-- the outermost level is of this kind
abbrev pub is_fixed : ArrayBytes → Bool
is_fixed (fixed_bytes value) = true
is_fixed _ = false

abbrev pub is_variable : ArrayBytes → Bool
is_variable (variable_bytes value offsets) = true
is_variable _ = false

abbrev pub is_optional : ArrayBytes → Bool
is_optional (optional_bytes under mask) = true
is_optional _ = false

-- the length of the innermost data
abbrev pub inner_length : ArrayBytes → ℕ
inner_length (fixed_bytes value) = length value
inner_length (variable_bytes value offsets) = length value
inner_length (optional_bytes under mask) = inner_length under

-- the offsets of the innermost data
abbrev pub innermost_offsets : ArrayBytes → Option (List ℕ)
innermost_offsets (fixed_bytes value) = None
innermost_offsets (variable_bytes value offsets) = Some offsets
innermost_offsets (optional_bytes under mask) = innermost_offsets under
