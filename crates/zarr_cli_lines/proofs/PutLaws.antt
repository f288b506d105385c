-- What the text of an element puts at the end of array bytes.
use Rattle.std.proofs.Common.{[], ◌≡◌, ◌≢◌, ℕ, ◌/◌, Bool, true, false, if◌then◌else◌, cond, ◌==◌, List, ◌∷◌, ◌++◌}
use Rattle.std.proofs.Common.{length, codes, Option, Some, None, option_map, option_and_then, unwrap_or, Result, Ok}
use Rattle.std.proofs.Common.{Err, refl, sym, ap, ◌∙◌, subst, eq-eqb, arith}
use Rattle.std.specs.Result.{result_ok}
use Rattle.hex.specs.Hex.{decode_of}
use Rattle.hex.specs.declared.error.FromHexError.{FromHexError}
use Rattle.hex.proofs.HexLemmas.{decode_of-ok}
use Rattle.std.proofs.lemmas.Bool.{cond-true, cond-false, ne_eqb}
use Rattle.zarr_model.specs.Element.{Element, of_bytes, null, some, Kind, fixed, variable, optional, blank}
use Rattle.zarr_model.specs.ArrayBytes.{ArrayBytes, fixed_bytes, variable_bytes, optional_bytes, held}
use Rattle.zarrs_codec_array_bytes.specs.Refusals.{kind_refusal}
use Rattle.zarr_cli_lines.specs.ElementText.{hex_of, fixed_element, element_of}
use Rattle.zarr_cli_lines.specs.Put.{put_element, PutsElement}

-- a fixed kind
fixed_is : (size : ℕ) (text bytes : List ℕ) → hex_of text ≡ Some bytes → length bytes ≡ size →
    element_of (fixed size) text ≡ Some (of_bytes bytes)
fixed_is size text bytes is long =
    ap (option_and_then (fixed_element size)) is ∙ cond-true (length bytes == size) _ None (eq-eqb _ _ long)

fixed_put : (size : ℕ) (text bytes before now : List ℕ) → hex_of text ≡ Some bytes → length bytes ≡ size →
    now ≡ before ++ bytes →
    PutsElement (fixed size) (element_of (fixed size) text) true (fixed_bytes before) (fixed_bytes now)
fixed_put size text bytes before now is long made = subst (λ o. PutsElement (fixed size) o true (fixed_bytes before)
    (fixed_bytes now)) (sym (fixed_is size text bytes is long)) (ap fixed_bytes made)

fixed_none : (size : ℕ) (text : List ℕ) (before now : ArrayBytes) → hex_of text ≡ None →
    PutsElement (fixed size) (element_of (fixed size) text) false before now
fixed_none size text before now none =
    subst (λ o. PutsElement (fixed size) o false before now) (sym (ap (option_and_then (fixed_element size)) none)) tt

fixed_wrong : (size : ℕ) (text bytes : List ℕ) (before now : ArrayBytes) → hex_of text ≡ Some bytes →
    ¬ (length bytes ≡ size) → PutsElement (fixed size) (element_of (fixed size) text) false before now
fixed_wrong size text bytes before now is other =
    subst (λ o. PutsElement (fixed size) o false before now) (sym (ap (option_and_then (fixed_element size)) is
    ∙ cond-false (length bytes == size) (Some (of_bytes bytes)) None (ne_eqb _ _ other))) tt

-- the text of bytes has an `h` and two digits for each
text_long : (text bytes : List ℕ) → hex_of text ≡ Some bytes → length text / 2 ≡ length bytes
text_long [] bytes is = cc is
text_long (b ∷ digits) bytes is = go (b == 104) is
  where
    decoded : (r : Result (List ℕ) FromHexError) → decode_of digits ≡ r → result_ok r ≡ Some bytes →
        length (b ∷ digits) / 2 ≡ length bytes
    decoded (Ok value) d found =
        let long = (decode_of-ok digits value d).2 in
        let same : length value ≡ length bytes = ap (λ o. length (unwrap_or o [])) found in
        omega (arith, long, same)
    decoded (Err error) d found = cc found

    go : (h : Bool) → cond h (result_ok (decode_of digits)) None ≡ Some bytes →
        length (b ∷ digits) / 2 ≡ length bytes
    go true found = decoded (decode_of digits) refl found
    go false found = cc found

pub fixed_pushed : (size : ℕ) (text before now : List ℕ) (pushed : Bool) → length text / 2 ≡ size →
    (if pushed then Some now else None) ≡ option_map (λ bytes. before ++ bytes) (hex_of text) →
    PutsElement (fixed size) (element_of (fixed size) text) pushed (fixed_bytes before) (fixed_bytes now)
fixed_pushed size text before now pushed long e = go pushed (hex_of text) refl e
  where
    go : (pushed : Bool) (o : Option (List ℕ)) → hex_of text ≡ o →
        (if pushed then Some now else None) ≡ option_map (λ bytes. before ++ bytes) o →
        PutsElement (fixed size) (element_of (fixed size) text) pushed (fixed_bytes before) (fixed_bytes now)
    go true (Some bytes) is e = fixed_put size text bytes before now is (sym (text_long text bytes is) ∙ long)
        (ap (λ o. unwrap_or o []) e)
    go true None is e = cc e
    go false (Some bytes) is e = cc e
    go false None is e = fixed_none size text (fixed_bytes before) (fixed_bytes now) is

pub fixed_other : (size : ℕ) (text : List ℕ) (before now : ArrayBytes) → ¬ (length text / 2 ≡ size) →
    PutsElement (fixed size) (element_of (fixed size) text) false before now
fixed_other size text before now other = go (hex_of text) refl
  where
    go : (o : Option (List ℕ)) → hex_of text ≡ o →
        PutsElement (fixed size) (element_of (fixed size) text) false before now
    go (Some bytes) is = fixed_wrong size text bytes before now is (λ e. other (text_long text bytes is ∙ e))
    go None is = fixed_none size text before now is

-- a variable one
pub variable_put : (text before now offsets ends : List ℕ) →
    Some now ≡ option_map (λ bytes. before ++ bytes) (hex_of text) → ends ≡ offsets ++ length now ∷ [] →
    PutsElement variable (element_of variable text) true (variable_bytes before offsets) (variable_bytes now ends)
variable_put text before now offsets ends e end = go (hex_of text) e
  where
    go : (o : Option (List ℕ)) → Some now ≡ option_map (λ bytes. before ++ bytes) o →
        PutsElement variable (option_map of_bytes o) true (variable_bytes before offsets) (variable_bytes now ends)
    go (Some bytes) e = let made = ap (λ o. unwrap_or o []) e in rw (end, made) refl
    go None e = cc e

pub variable_none : (text before : List ℕ) (above over : ArrayBytes) →
    None ≡ option_map (λ bytes. before ++ bytes) (hex_of text) →
    PutsElement variable (element_of variable text) false above over
variable_none text before above over e = go (hex_of text) e
  where
    go : (o : Option (List ℕ)) → None ≡ option_map (λ bytes. before ++ bytes) o →
        PutsElement variable (option_map of_bytes o) false above over
    go (Some bytes) e = cc e
    go None e = tt

-- an optional one: null
pub null_put : (kind : Kind) (text : List ℕ) (before now : ArrayBytes) (mask marks : List ℕ) → text ≡ codes "-" →
    now ≡ put_element kind (blank kind) before → marks ≡ mask ++ 0 ∷ [] →
    PutsElement (optional kind) (element_of (optional kind) text) true (optional_bytes before mask)
    (optional_bytes now marks)
null_put kind text before now mask marks is made mark =
    subst (λ t. PutsElement (optional kind) (element_of (optional kind) t) true (optional_bytes before mask)
    (optional_bytes now marks)) (sym is) (rw (made, mark) refl)

-- neither null nor some
element_none : (kind : Kind) (text : List ℕ) → ¬ (text ≡ codes "-") → ((rest : List ℕ) → text ≢ 43 ∷ rest) →
    element_of (optional kind) text ≡ None
element_none kind [] other lacks = refl
element_none kind (b ∷ []) other lacks =
    cond-false (b == 45) (Some null) None (ne_eqb b 45 (λ e. other (ap (λ x. x ∷ []) e)))
element_none kind (b ∷ c ∷ line) other lacks = cond-false (b == 43) (option_map some (element_of kind (c ∷ line))) None
    (ne_eqb b 43 (λ e. lacks (c ∷ line) (ap (λ x. x ∷ c ∷ line) e)))

pub optional_none : (kind : Kind) (text : List ℕ) (before now : ArrayBytes) → ¬ (text ≡ codes "-") → ((rest : List ℕ) →
    text ≢ 43 ∷ rest) → PutsElement (optional kind) (element_of (optional kind) text) false before now
optional_none kind text before now other lacks =
    subst (λ o. PutsElement (optional kind) o false before now) (sym (element_none kind text other lacks)) tt

-- some of an element
empty_none : (kind : Kind) → element_of kind [] ≡ None
empty_none (fixed n) = refl
empty_none variable = refl
empty_none (optional kind) = refl

element_some : (kind : Kind) (rest : List ℕ) →
    element_of (optional kind) (43 ∷ rest) ≡ option_map some (element_of kind rest)
element_some kind [] = sym (ap (option_map some) (empty_none kind))
element_some kind (c ∷ line) = refl

some_puts : (kind : Kind) (o : Option Element) (before now : ArrayBytes) (mask marks : List ℕ) →
    PutsElement kind o true before now → marks ≡ mask ++ 1 ∷ [] →
    PutsElement (optional kind) (option_map some o) true (optional_bytes before mask) (optional_bytes now marks)
some_puts kind None before now mask marks puts mark = absurd puts
some_puts kind (Some element) before now mask marks puts mark = rw (puts, mark) refl

pub some_put : (kind : Kind) (text rest : List ℕ) (before now : ArrayBytes) (mask marks : List ℕ) → text ≡ 43 ∷ rest →
    PutsElement kind (element_of kind rest) true before now → marks ≡ mask ++ 1 ∷ [] →
    PutsElement (optional kind) (element_of (optional kind) text) true (optional_bytes before mask)
    (optional_bytes now marks)
some_put kind text rest before now mask marks is puts mark =
    subst (λ o. PutsElement (optional kind) o true (optional_bytes before mask) (optional_bytes now marks))
    (sym (ap (element_of (optional kind)) is ∙ element_some kind rest))
    (some_puts kind (element_of kind rest) before now mask marks puts mark)

none_puts : (kind : Kind) (o : Option Element) (before now above over : ArrayBytes) →
    PutsElement kind o false before now → PutsElement (optional kind) (option_map some o) false above over
none_puts kind None before now above over puts = tt
none_puts kind (Some element) before now above over puts = absurd puts

pub some_none : (kind : Kind) (text rest : List ℕ) (before now above over : ArrayBytes) → text ≡ 43 ∷ rest →
    PutsElement kind (element_of kind rest) false before now →
    PutsElement (optional kind) (element_of (optional kind) text) false above over
some_none kind text rest before now above over is puts =
    subst (λ o. PutsElement (optional kind) o false above over) (sym (ap (element_of (optional kind)) is
    ∙ element_some kind rest)) (none_puts kind (element_of kind rest) before now above over puts)

-- array bytes stay of their kind
put_kept : (kind : Kind) (element : Element) (bytes : ArrayBytes) → kind_refusal kind bytes ≡ None →
    kind_refusal kind (put_element kind element bytes) ≡ None
put_kept (fixed n) element (fixed_bytes value) is = refl
put_kept (fixed n) element (variable_bytes value offsets) is = cc
put_kept (fixed n) element (optional_bytes under mask) is = cc
put_kept variable element (fixed_bytes value) is = cc
put_kept variable element (variable_bytes value offsets) is = refl
put_kept variable element (optional_bytes under mask) is = cc
put_kept (optional kind) element (fixed_bytes value) is = cc
put_kept (optional kind) element (variable_bytes value offsets) is = cc
put_kept (optional kind) element (optional_bytes under mask) is = put_kept kind (held kind element) under is

pub puts_kept : (kind : Kind) (o : Option Element) (before now : ArrayBytes) → PutsElement kind o true before now →
    kind_refusal kind before ≡ None → kind_refusal kind now ≡ None
puts_kept kind (Some element) before now puts is =
    subst (λ b. kind_refusal kind b ≡ None) (sym puts) (put_kept kind element before is)
puts_kept kind None before now puts is = absurd puts
