-- Elements of n bytes, one after another.
use Rattle.std.specs.Prelude.{ℕ, ◌/◌, List, length, map}
use Rattle.zarr_model.specs.Prelude.{Element, of_bytes, pieces}

-- the elements of n bytes that bytes are
abbrev pub elements_of : ℕ → List ℕ → List (List ℕ)
elements_of n bytes = pieces (length bytes / n) n bytes

abbrev pub fixed_elements : ℕ → List ℕ → List Element
fixed_elements n bytes = map of_bytes (elements_of n bytes)
