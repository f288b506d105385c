-- When optional array bytes are equal.
use Rattle.std.specs.Prelude.{◌≡◌, ℕ, zero, suc, ◌+◌, ◌/◌, ◌<◌, ◌==◌, Bool, true, false, not, ◌&&◌, nat_lt}
use Rattle.std.specs.Prelude.{if◌then◌else◌, List, length, get_or, bytes_eq, Option, Some, None}
use Rattle.zarr_model.specs.Element.{Element}
use Rattle.std.specs.List.{list_all, range_with_len}
use Rattle.zarr_model.specs.ArrayBytes.{ArrayBytes, fixed_bytes, variable_bytes, optional_bytes}
use Rattle.zarrs_codec_slices.specs.Picking.{piece_of, value_of}

-- the data are of one kind, level by level, and fixed ones of equal length
abbrev pub same_shape : ArrayBytes → ArrayBytes → Bool
same_shape (fixed_bytes a) (fixed_bytes b) = length a == length b
same_shape (variable_bytes a p) (variable_bytes b q) = true
same_shape (optional_bytes a m) (optional_bytes b k) = same_shape a b
same_shape _ _ = false

-- the elements at a place are equal, where fixed ones are so many; two places without an element
-- are
abbrev pub same_at : ℕ → ℕ → ArrayBytes → ArrayBytes → Bool
same_at number i (fixed_bytes a) (fixed_bytes b) =
    bytes_eq (piece_of (length a / number) a i) (piece_of (length b / number) b i)
same_at number i (variable_bytes a p) (variable_bytes b q) =
    if nat_lt (i + 1) (length p)
    then (if nat_lt (i + 1) (length q) then bytes_eq (value_of a p i) (value_of b q i) else false)
    else not (nat_lt (i + 1) (length q))
same_at number i (optional_bytes a m) (optional_bytes b k) =
    if nat_lt i (length m)
    then (if nat_lt i (length k) then (if get_or m i 0 == get_or k i 0
    then (if get_or m i 0 == 0 then true else same_at number i a b) else false) else false)
    else not (nat_lt i (length k))
same_at number i _ _ = false

-- the same where the mask has an element
abbrev pub same_under : List ℕ → ArrayBytes → ArrayBytes → ℕ → Bool
same_under mask a b i = if get_or mask i 0 == 0 then true else same_at (length mask) i a b

abbrev pub same_optional : List ℕ → ArrayBytes → List ℕ → ArrayBytes → Bool
same_optional m a k b = bytes_eq m k
    && (same_shape a b && list_all (same_under m a b) (range_with_len 0 (length m)))

-- array bytes are equal: the same bytes, the same bytes and offsets, or equal optional ones
abbrev pub same_array_bytes : ArrayBytes → ArrayBytes → Bool
same_array_bytes (fixed_bytes a) (fixed_bytes b) = bytes_eq a b
same_array_bytes (variable_bytes a p) (variable_bytes b q) = bytes_eq a b && bytes_eq p q
same_array_bytes (optional_bytes a m) (optional_bytes b k) = same_optional m a k b
same_array_bytes _ _ = false

-- what equality sees of an element: its bytes, or the mask byte and what is under it, or that there
-- is none
pub data SeenBytes : Type 0 where
  nothing : SeenBytes
  fixed_seen : List ℕ → SeenBytes
  variable_seen : Option (List ℕ) → SeenBytes
  flag_seen : Option ℕ → SeenBytes → SeenBytes
  odd : Element → SeenBytes

abbrev pub flagged : ℕ → SeenBytes → SeenBytes
flagged zero under = flag_seen (Some 0) nothing
flagged (suc b) under = flag_seen (Some (suc b)) under

abbrev pub seen_at : ℕ → ℕ → ArrayBytes → SeenBytes
seen_at number i (fixed_bytes a) = fixed_seen (piece_of (length a / number) a i)
seen_at number i (variable_bytes a p) =
    variable_seen (if nat_lt (i + 1) (length p) then Some (value_of a p i) else None)
seen_at number i (optional_bytes a m) =
    if nat_lt i (length m) then flagged (get_or m i 0) (seen_at number i a)
    else flag_seen None nothing

-- and of the data as a whole
pub data Shape : Type 0 where
  fixed_shape : ℕ → Shape
  variable_shape : Shape
  optional_shape : Shape → Shape

abbrev pub shape_of : ArrayBytes → Shape
shape_of (fixed_bytes a) = fixed_shape (length a)
shape_of (variable_bytes a p) = variable_shape
shape_of (optional_bytes a m) = optional_shape (shape_of a)

-- optional array bytes are equal: the masks, the data's form, and what is seen of each element that
-- is there
pub record IsSame (m : List ℕ) (a : ArrayBytes) (k : List ℕ) (b : ArrayBytes) : Type 0 where
  pub masks : m ≡ k
  pub shape : shape_of a ≡ shape_of b
  pub each : (i : ℕ) → i < length m → (get_or m i 0 ≡ 0 → ⊥)
      → seen_at (length m) i a ≡ seen_at (length m) i b
