-- An element is read back from its text.
use Rattle.std.proofs.Common.{◌≡◌, ℕ, ◌<◌, ◌==◌, List, [], ◌∷◌, length, Some, None, option_map, option_and_then, refl}
use Rattle.std.proofs.Common.{ap, ◌∙◌, arith, eq-eqb}
use Rattle.std.specs.Result.{result_ok}
use Rattle.std.proofs.lemmas.Bool.{cond-true}
use Rattle.hex.specs.Hex.{IsBytes}
use Rattle.hex.proofs.HexLemmas.{decode_of-encode_lower}
use Rattle.zarr_model.specs.Prelude.{Element, of_bytes, null, some, Kind, fixed, variable, optional, IsOfKind}
use Rattle.zarr_cli_lines.specs.ElementText.{hex_of, hex_text, fixed_element, element_of, element_text, HoldsBytes}

hex_of-text : (value : List ℕ) → IsBytes value → hex_of (hex_text value) ≡ Some value
hex_of-text value h = ap result_ok (decode_of-encode_lower value h)

some_text : (kind : Kind) (line : List ℕ) (element : Element) → element_of kind line ≡ Some element →
    (0 < length line → element_of (optional kind) (43 ∷ line) ≡ Some (some element))
some_text kind [] element e h = absurd (omega arith)
some_text kind (b ∷ line) element e h = ap (option_map some) e

text_nonempty : (element : Element) → 0 < length (element_text element)
text_nonempty (of_bytes value) = omega arith
text_nonempty null = omega arith
text_nonempty (some element) = omega arith

-- an element is read back from its text
pub element_of-text : (kind : Kind) (element : Element) → IsOfKind kind element → HoldsBytes element →
    element_of kind (element_text element) ≡ Some element
element_of-text (fixed n) (of_bytes value) is holds =
    ap (option_and_then (fixed_element n)) (hex_of-text value holds)
    ∙ cond-true (length value == n) (Some (of_bytes value)) None (eq-eqb (length value) n is)
element_of-text (fixed n) null is holds = absurd is
element_of-text (fixed n) (some element) is holds = absurd is
element_of-text variable (of_bytes value) is holds = ap (option_map of_bytes) (hex_of-text value holds)
element_of-text variable null is holds = absurd is
element_of-text variable (some element) is holds = absurd is
element_of-text (optional kind) (of_bytes value) is holds = absurd is
element_of-text (optional kind) null is holds = refl
element_of-text (optional kind) (some element) is holds =
    some_text kind (element_text element) element (element_of-text kind element is holds) (text_nonempty element)
