-- The element at a place of valid array bytes.
use Rattle.std.specs.Prelude.{ℕ, ◌<◌, ◌-◌, List, [], length, get_or, IsSome, unwrap_or}
use Rattle.zarr_model.specs.Element.{Element, null, Kind}
use Rattle.zarr_model.specs.ArrayBytes.{ArrayBytes, fixed_bytes, variable_bytes, optional_bytes, meaning}
use Rattle.zarr_cli_lines.specs.ElementText.{element_text}

-- array bytes mean so many elements, and this place is one of them
pub record IsElementPlace (kind : Kind) (elements : ℕ) (bytes : ArrayBytes) (index : ℕ)
    : Type 0 where
  pub inside : index < elements
  pub valid : IsSome (meaning kind elements bytes)

-- the elements, the one at a place, and its text
abbrev pub list_of_kind : Kind → ℕ → ArrayBytes → List Element
list_of_kind kind elements bytes = unwrap_or (meaning kind elements bytes) []

abbrev pub element_at : Kind → ℕ → ArrayBytes → ℕ → Element
element_at kind elements bytes index = get_or (list_of_kind kind elements bytes) index null

abbrev pub text_at : Kind → ℕ → ArrayBytes → ℕ → List ℕ
text_at kind elements bytes index = element_text (element_at kind elements bytes index)

-- how many elements array bytes are that are not all of one size, if they are valid
abbrev pub count_in : ArrayBytes → ℕ
count_in (fixed_bytes value) = 0
count_in (variable_bytes value offsets) = length offsets - 1
count_in (optional_bytes under mask) = length mask

-- the bytes of elements of one size; of others none
abbrev pub fixed_part : ArrayBytes → List ℕ
fixed_part (fixed_bytes value) = value
fixed_part _ = []
