-- Array bytes with one element more.
use Rattle.std.specs.Prelude.{[], ◌≡◌, Bool, true, false, List, ◌∷◌, ◌++◌, length, Option, Some, None}
use Rattle.zarr_model.specs.Element.{Element, Kind, fixed, variable, optional}
use Rattle.zarr_model.specs.ArrayBytes.{ArrayBytes, fixed_bytes, variable_bytes, optional_bytes, bytes_of, mask_byte}
use Rattle.zarr_model.specs.ArrayBytes.{held}

-- with an element at the end
abbrev pub put_element : Kind → Element → ArrayBytes → ArrayBytes
put_element kind element (fixed_bytes value) = fixed_bytes (value ++ bytes_of element)
put_element kind element (variable_bytes value offsets) =
    variable_bytes (value ++ bytes_of element)
    (offsets ++ length (value ++ bytes_of element) ∷ [])
put_element (fixed n) element (optional_bytes under mask) = optional_bytes under mask
put_element variable element (optional_bytes under mask) = optional_bytes under mask
put_element (optional kind) element (optional_bytes under mask) =
    optional_bytes (put_element kind (held kind element) under) (mask ++ mask_byte element ∷ [])

-- an element was put, if there is one
abbrev pub PutsElement : Kind → Option Element → Bool → ArrayBytes → ArrayBytes → Type 0
PutsElement kind (Some element) true before now = now ≡ put_element kind element before
PutsElement kind (Some element) false before now = ⊥
PutsElement kind None true before now = ⊥
PutsElement kind None false before now = Unit {0}

-- and with some elements, one after another
abbrev pub put_elements : Kind → List Element → ArrayBytes → ArrayBytes
put_elements kind [] bytes = bytes
put_elements kind (element ∷ elements) bytes =
    put_elements kind elements (put_element kind element bytes)
