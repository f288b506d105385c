-- Array bytes whose elements are all a fill value.
use Rattle.std.specs.Prelude.{◌≡◌, ℕ, ◌+◌, ◌-◌, ◌<◌, ◌==◌, Bool, true, false, if◌then◌else◌, List, [], ◌∷◌, length}
use Rattle.std.specs.Prelude.{take, replicate}
use Rattle.zarr_model.specs.Element.{Kind, fixed, variable, optional, fixed_size}
use Rattle.zarr_model.specs.ArrayBytes.{ArrayBytes, fixed_bytes, variable_bytes, optional_bytes, ends_from}
use Rattle.zarrs_data_type_bytes.specs.Pieces.{repeated, Repeats, ends_in_zero}
use Rattle.zarrs_codec_slices.specs.Picking.{size_in, value_of}

-- the fill value of the type inside an optional one: zero bytes, or none where sizes differ, under
-- a null; else the bytes without the last
abbrev pub inner_fill : Kind → List ℕ → List ℕ
inner_fill kind fill =
    if ends_in_zero fill then replicate (size_in (fixed_size kind)) 0
    else take (length fill - 1) fill

-- the fill value of the innermost type
abbrev pub innermost_fill : Kind → List ℕ → List ℕ
innermost_fill (fixed n) fill = fill
innermost_fill variable fill = fill
innermost_fill (optional kind) fill = innermost_fill kind (inner_fill kind fill)

-- where the innermost elements have one size, their fill value has it
abbrev pub has_size : Kind → List ℕ → Bool
has_size (fixed n) fill = length fill == n
has_size variable fill = true
has_size (optional kind) fill = has_size kind (inner_fill kind fill)

-- the mask byte of a fill value of an optional type
abbrev pub flag_of : List ℕ → ℕ
flag_of fill = if ends_in_zero fill then 0 else 1

-- so many elements that are all the fill value
abbrev pub filled_with : Kind → ℕ → List ℕ → ArrayBytes
filled_with (fixed n) number fill = fixed_bytes (repeated number fill)
filled_with variable number fill =
    variable_bytes (repeated number fill) (0 ∷ ends_from 0 (replicate number fill))
filled_with (optional kind) number fill =
    optional_bytes (filled_with kind number (inner_fill kind fill))
    (replicate number (flag_of fill))

-- there is an element between offsets, and each has these bytes
pub record AreFilledValues (fill value offsets : List ℕ) : Type 0 where
  pub some : 1 < length offsets
  pub each : (k : ℕ) → k + 1 < length offsets → value_of value offsets k ≡ fill

-- a mask is not empty, and all 0 where the fill value is null; else it is all 1 over data that are
-- the fill value
abbrev pub MasksFill : Bool → List ℕ → Type 0 → Type 0
MasksFill true mask Under = Repeats (0 ∷ []) mask
MasksFill false mask Under = Repeats (1 ∷ []) mask × Under

-- array bytes have an element, and each is the fill value
abbrev pub AreFill : ArrayBytes → List ℕ → Type 0
AreFill (fixed_bytes value) fill = Repeats fill value
AreFill (variable_bytes value offsets) fill = AreFilledValues fill value offsets
AreFill (optional_bytes under mask) fill =
    MasksFill (ends_in_zero fill) mask (AreFill under (take (length fill - 1) fill))
