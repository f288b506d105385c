-- The texts of elements: bytes in hexadecimal, `-` for null, `+` before what is there.
use Rattle.std.specs.Prelude.{ℕ, ◌==◌, if◌then◌else◌, List, [], ◌∷◌, length, flat_map, codes, Option, Some, None}
use Rattle.std.specs.Prelude.{option_map, option_and_then}
use Rattle.std.specs.List.{slice_split}
use Rattle.std.specs.Option.{option_map_or}
use Rattle.std.specs.Borrow.{Bor}
use Rattle.std.specs.Result.{result_ok}
use Rattle.hex.specs.Hex.{IsBytes, encode_lower, decode_of}
use Rattle.zarr_model.specs.Prelude.{Element, of_bytes, null, some, Kind, fixed, variable, optional}

-- the parts of a text between the bytes that are this one
abbrev pub split_at : ℕ → List ℕ → List (List ℕ)
split_at separator line = slice_split (λ b. b == separator) line

-- the words of a text, if there is one
abbrev pub words_left : Option (Bor (List ℕ)) → List (List ℕ)
words_left text = option_map_or (λ rest. split_at 32 rest.now) text []

-- the values, if each is there
abbrev pub all_some : {A : Type 0} → List (Option A) → Option (List A)
all_some [] = Some []
all_some (None ∷ options) = None
all_some (Some x ∷ options) = option_map (λ xs. x ∷ xs) (all_some options)

-- bytes: `h` and hexadecimal, in either case
abbrev pub hex_of : List ℕ → Option (List ℕ)
hex_of [] = None
hex_of (b ∷ digits) = if b == 104 then result_ok (decode_of digits) else None

-- bytes of a fixed length as an element
abbrev pub fixed_element : ℕ → List ℕ → Option Element
fixed_element n value = if length value == n then Some (of_bytes value) else None

-- an element: its bytes in hexadecimal; of an optional kind `-` for null, or `+` and an element
abbrev pub element_of : Kind → List ℕ → Option Element
element_of (fixed n) line = option_and_then (fixed_element n) (hex_of line)
element_of variable line = option_map of_bytes (hex_of line)
element_of (optional kind) [] = None
element_of (optional kind) (b ∷ []) = if b == 45 then Some null else None
element_of (optional kind) (b ∷ c ∷ line) = if b == 43
    then option_map some (element_of kind (c ∷ line)) else None

-- the text of bytes and of an element
abbrev pub hex_text : List ℕ → List ℕ
hex_text value = 104 ∷ encode_lower value

abbrev pub element_text : Element → List ℕ
element_text (of_bytes value) = hex_text value
element_text null = codes "-"
element_text (some element) = 43 ∷ element_text element

-- the text of elements: a space before each one
abbrev pub elements_text : List Element → List ℕ
elements_text list = flat_map (λ element. 32 ∷ element_text element) list

-- the bytes of an element are bytes
abbrev pub HoldsBytes : Element → Type 0
HoldsBytes (of_bytes value) = IsBytes value
HoldsBytes null = Unit {0}
HoldsBytes (some element) = HoldsBytes element
