-- Elements of one size, from their digits, and as text.
use Rattle.std.specs.Prelude.{◌≡◌, ℕ, ◌+◌, ◌*◌, ◌/◌, Bool, true, false, List, [], ◌∷◌, ◌++◌, length, map, flat_map}
use Rattle.std.specs.Prelude.{Option, Some, None, option_map, if◌then◌else◌}
use Rattle.std.specs.Option.{option_map_or}
use Rattle.std.specs.Borrow.{Bor}
use Rattle.zarr_model.specs.Prelude.{Element, fixed, of_bytes, bytes_of}
use Rattle.zarrs_codec_slices.specs.Elements.{elements_of}
use Rattle.zarr_cli_lines.specs.ElementText.{all_some, element_of, hex_text}

-- what stands behind a word: nothing, or a space and more words
abbrev pub behind_space : Option (Bor (List ℕ)) → List ℕ
behind_space rest = option_map_or (λ others. 32 ∷ others.now) rest []

-- a text is the element with these bytes, or is none
abbrev pub IsElement : Option Element → Bool → List ℕ → Type 0
IsElement element found bytes = element ≡ (if found then Some (of_bytes bytes) else None)

-- the bytes of an element were appended, or a text is none
abbrev pub PushesElement : Option Element → Bool → List ℕ → List ℕ → Type 0
PushesElement element true before now =
    (bytes : List ℕ) × (element ≡ Some (of_bytes bytes)) × (now ≡ before ++ bytes)
PushesElement element false before now = element ≡ None

-- the bytes of the elements that some words are, if each is one
abbrev pub written_bytes : ℕ → List (List ℕ) → Option (List ℕ)
written_bytes n words =
    option_map (flat_map bytes_of) (all_some (map (element_of (fixed n)) words))

-- how many bytes the elements in what is left of a text have at most
abbrev pub room_left : ℕ → Option (Bor (List ℕ)) → ℕ
room_left n text = option_map_or (λ rest. (length rest.now + 1) / 2 / (n + 1) * n) text 0

-- the text of elements of n bytes: a space before each one
abbrev pub bytes_text : ℕ → List ℕ → List ℕ
bytes_text n value = flat_map (λ element. 32 ∷ hex_text element) (elements_of n value)
