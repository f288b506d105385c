-- The text of elements of one size.
use Rattle.std.proofs.Common.{◌≡◌, ℕ, zero, suc, ◌+◌, ◌*◌, ◌<◌, ◌≤◌, ◌/◌, List, [], ◌∷◌, ◌++◌, length, get_or, map}
use Rattle.std.proofs.Common.{take, drop, flat_map, Some, None, Result, Ok, Err, OnOk, refl, sym, ap, ap₂, ◌∙◌}
use Rattle.std.proofs.Common.{append_assoc, rules, arith}
use Rattle.std.proofs.lemmas.List.{drop-drop, drop_more}
use Rattle.std.proofs.lemmas.Slice.{take-put_mid}
use Rattle.std.proofs.Math.Nat.{suc-mul}
use Rattle.std.proofs.lemmas.Option.{same_Some}
use borrow.Rule.Slice.PartMut.{put_mid}
use Rattle.zarr_model.specs.Prelude.{Element, of_bytes, Kind, fixed, ArrayBytes, fixed_bytes, variable_bytes}
use Rattle.zarr_model.specs.Prelude.{optional_bytes, meaning, pieces}
use Rattle.zarr_model.proofs.Choices.{some_now}
use Rattle.zarrs_codec_slices.specs.Elements.{elements_of, fixed_elements}
use Rattle.zarrs_codec_slices.proofs.FixedLaws.{meaning_is, meaning_long}
use Rattle.zarr_cli_lines.specs.ElementText.{element_text, elements_text, hex_text}
use Rattle.zarr_cli_lines.specs.Fixed.{bytes_text}
use Rattle.zarr_cli_lines.specs.Place.{fixed_part}

-- the pieces up to a place, and the one there
more_pieces : (k n : ℕ) (value : List ℕ) → pieces (suc k) n value ≡ pieces k n value ++ take n (drop (k * n) value) ∷ []
more_pieces zero n value = ap (λ m. take n (drop m value) ∷ []) (let e : 0 ≡ 0 * n = omega arith in e)
more_pieces (suc k) n value =
    ap (λ l. take n value ∷ l) (more_pieces k n (drop n value)
    ∙ ap (λ v. pieces k n (drop n value) ++ take n v ∷ []) (drop-drop (k * n) n value
    ∙ ap (λ m. drop m value) (let e : n + k * n ≡ suc k * n = omega (arith, suc-mul k n) in e)))

texts_put : {A : Type 0} (f : A → List ℕ) (xs : List A) (x : A) → flat_map f (xs ++ x ∷ []) ≡ flat_map f xs ++ f x
texts_put f [] x = search rules
texts_put f (y ∷ xs) x = ap (λ l. f y ++ l) (texts_put f xs x) ∙ sym (append_assoc (f y) (flat_map f xs) (f x))

-- the texts of the elements up to a place stand in their slots, and so does that of the one there
pub next_slot : (k n width long : ℕ) (value slots slot : List ℕ) → long ≡ width → k * width + width ≤ length slots →
    take (k * width) slots ≡ flat_map (λ element. 32 ∷ hex_text element) (pieces k n value) →
    slot ≡ 32 ∷ hex_text (take n (drop (k * n) value)) → length slot ≡ width →
    take ((k + 1) * width) (put_mid (k * width) long slots slot) ≡
    flat_map (λ element. 32 ∷ hex_text element) (pieces (k + 1) n value)
next_slot k n width long value slots slot same fits so_far put wide =
    take-put_mid (k * width) long slots slot
    ((k + 1) * width) (let e : (k + 1) * width ≡ k * width + width = one_more in omega (arith, e)) (omega arith)
    ∙ (ap (λ texts. texts ++ slot) so_far
    ∙ (ap (λ text. flat_map (λ element. 32 ∷ hex_text element) (pieces k n value) ++ text) put
    ∙ (sym (texts_put (λ element. 32 ∷ hex_text element) (pieces k n value) (take n (drop (k * n) value)))
    ∙ ap (flat_map (λ element. 32 ∷ hex_text element))
    (sym (more_pieces k n value) ∙ ap (λ m. pieces m n value) (let e : suc k ≡ k + 1 = omega arith in e)))))
  where
    one_more : (k + 1) * width ≡ k * width + width
    one_more = let e : suc k ≡ k + 1 = omega arith in rw (← e) (omega (arith, suc-mul k width))

-- the same where each element is one byte
one_piece : (k : ℕ) (bytes : List ℕ) → k < length bytes → take 1 (drop (k * 1) bytes) ≡ get_or bytes k 0 ∷ []
one_piece k bytes h =
    ap (λ n. take 1 (drop n bytes)) (let e : k * 1 ≡ k = omega arith in e) ∙ ap (take 1) (drop_more bytes k 0 h)

pub next_byte : (k long : ℕ) (bytes slots slot : List ℕ) → long ≡ 4 → k * 4 + 4 ≤ length slots → k < length bytes →
    take (k * 4) slots ≡ flat_map (λ element. 32 ∷ hex_text element) (pieces k 1 bytes) →
    slot ≡ 32 ∷ hex_text (get_or bytes k 0 ∷ []) → length slot ≡ 4 →
    take ((k + 1) * 4) (put_mid (k * 4) long slots slot) ≡
    flat_map (λ element. 32 ∷ hex_text element) (pieces (k + 1) 1 bytes)
next_byte k long bytes slots slot same fits below so_far put wide =
    next_slot k 1 4 long bytes slots slot same fits so_far
    (put ∙ ap (λ l. 32 ∷ hex_text l) (sym (one_piece k bytes below))) wide

pub one_byte_room : (n m size width : ℕ) → size ≡ 1 → width ≡ 2 + 2 * size → m ≡ n / size * width → m ≡ n * 4
one_byte_room n m size width one wide room =
    let width_is : width ≡ 4 = omega (arith, one, wide) in
    let all : n / 1 ≡ n = omega arith in
    room ∙ ap₂ (λ (s w : ℕ). n / s * w) one width_is ∙ ap (λ (q : ℕ). q * 4) all

-- the text of bytes, an element for each piece
texts_of : (l : List (List ℕ)) →
    flat_map (λ element. 32 ∷ element_text element) (map of_bytes l) ≡ flat_map (λ element. 32 ∷ hex_text element) l
texts_of [] = refl
texts_of (b ∷ l) = ap (λ text. (32 ∷ hex_text b) ++ text) (texts_of l)

pub fixed_texts : (n : ℕ) (value : List ℕ) → elements_text (fixed_elements n value) ≡ bytes_text n value
fixed_texts n value = texts_of (elements_of n value)

-- so it is with the list that bytes mean
pub means_text : (n : ℕ) (value : List ℕ) (list : List Element) → 0 < n →
    meaning (fixed n) (length list) (fixed_bytes value) ≡ Some list → elements_text list ≡ bytes_text n value
means_text n value list some h =
    let long : length value ≡ length list * n =
    meaning_long n some (length list) value (some_now (meaning (fixed n) (length list) (fixed_bytes value)) list h) in
    let same : list ≡ fixed_elements n value =
    same_Some list (fixed_elements n value) (sym h ∙ meaning_is n some (length list) value long) in
    ap elements_text same ∙ fixed_texts n value

-- and the text of bytes of that kind, for each list that they mean
pub fixed_put : {T E : Type 0} (result : Result T E) (kind : Kind) (size : ℕ) (raw : ArrayBytes) (value text now :
    List ℕ) → fixed size ≡ kind → value ≡ fixed_part raw → 0 < size →
    OnOk result (now ≡ text ++ bytes_text size value) →
    OnOk result ((list : List Element) → meaning kind (length list) raw ≡ Some list → now ≡ text ++ elements_text list)
fixed_put (Err error) kind size raw value text now same part some put = tt
fixed_put (Ok it) kind size raw value text now same part some put =
    λ list means. go raw part list (ap (λ k. meaning k (length list) raw) same ∙ means)
  where
    none_some : (list : List Element) → None ≡ Some list → ⊥
    none_some list e = cc

    go : (bytes : ArrayBytes) → value ≡ fixed_part bytes → (list : List Element) →
        meaning (fixed size) (length list) bytes ≡ Some list → now ≡ text ++ elements_text list
    go (fixed_bytes held) part list means =
        put ∙ ap (λ t. text ++ t) (ap (bytes_text size) part ∙ sym (means_text size held list some means))
    go (variable_bytes held offsets) part list means = absurd (none_some list means)
    go (optional_bytes under mask) part list means = absurd (none_some list means)
