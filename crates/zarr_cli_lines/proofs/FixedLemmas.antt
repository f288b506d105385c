-- Elements of one size, from their digits and into them.
use Rattle.std.proofs.Common.{◌≡◌, ◌≢◌, ℕ, suc, ◌+◌, ◌*◌, ◌<◌, ◌≤◌, ◌==◌, ◌++◌, Bool, true, false, List, [], ◌∷◌}
use Rattle.std.proofs.Common.{length, get_or, take, drop, map, flat_map, Option, Some, None, option_map}
use Rattle.std.proofs.Common.{option_and_then, Result, Ok, Err, refl, sym, ap, subst, ◌∙◌, arith, cond, eq-eqb}
use Rattle.std.proofs.Common.{eqb-true, append-nil, append_assoc, length-append, ◌/◌}
use Rattle.std.specs.Option.{option_map_or}
use Rattle.std.specs.Borrow.{Bor}
use Rattle.std.specs.Result.{result_ok}
use Rattle.std.specs.List.{All, AllPass, onto_first}
use Rattle.std.proofs.lemmas.Bool.{cond-true}
use Rattle.std.proofs.Math.Nat.{add-div_left, suc-mul}
use Rattle.std.proofs.lemmas.List.{take_at, drop_at}
use Rattle.std.proofs.lemmas.Slice.{take-put_mid}
use borrow.Rule.Slice.PartMut.{put_mid}
use Rattle.std.proofs.lemmas.List.Elements.{All-cons}
use Rattle.std.proofs.lemmas.List.Splits.{slice_split-cons_yes, slice_split-cons_no, slice_split_none, slice_split_at}
use Rattle.hex.specs.Hex.{is_hex_digit, decode_of, decode_sized}
use Rattle.hex.specs.declared.error.FromHexError.{FromHexError}
use Rattle.hex.proofs.HexLemmas.{decode_of-ok, decode_sized-twice}
use Rattle.zarr_model.specs.Prelude.{Element, fixed, of_bytes, bytes_of}
use Rattle.zarr_cli_lines.specs.ElementText.{split_at, words_left, all_some, fixed_element, element_of}
use Rattle.zarr_cli_lines.specs.Fixed.{behind_space, IsElement, PushesElement, written_bytes, room_left}

-- nothing, or a space and what follows it
abbrev after : Option (List ℕ) → List ℕ
after rest = option_map_or (λ others. 32 ∷ others) rest []

-- a text's first word, and what follows the space behind it
record HasFirst (text : List ℕ) : Type 0 where
  word : List ℕ
  rest : Option (List ℕ)
  joined : text ≡ word ++ after rest
  parted : split_at 32 text ≡ word ∷ option_map_or (split_at 32) rest []

first_word : (text : List ℕ) → HasFirst text
first_word [] = record { word = []; rest = None; joined = refl; parted = refl }
first_word (x ∷ text) = go (x == 32) refl (first_word text)
  where
    go : (b : Bool) → (x == 32) ≡ b → HasFirst text → HasFirst (x ∷ text)
    go true e others = record {
      word = [];
      rest = Some text;
      joined = ap (λ y. y ∷ text) (eqb-true x 32 e);
      parted = slice_split-cons_yes (λ b. b == 32) x text e;
    }
    go false e others = record {
      word = x ∷ others.word;
      rest = others.rest;
      joined = ap (λ l. x ∷ l) others.joined;
      parted = slice_split-cons_no (λ b. b == 32) x text e ∙ ap (onto_first x) others.parted;
    }

-- an element of n bytes is an `h` and 2n digits
digits_decode : (n : ℕ) (digits : List ℕ) (e : Element) → element_of (fixed n) (104 ∷ digits) ≡ Some e →
    (length digits ≡ 2 * n) × AllPass is_hex_digit digits
digits_decode n digits e is = go (decode_of digits) refl is
  where
    sized : (value : List ℕ) → decode_of digits ≡ Ok value → (b : Bool) → (length value == n) ≡ b →
        cond b (Some (of_bytes value)) None ≡ Some e → (length digits ≡ 2 * n) × AllPass is_hex_digit digits
    sized value d true long h =
        let many : length value ≡ n = eqb-true (length value) n long in
        let ok = decode_of-ok digits value d in
        (omega (arith, many, ok.2), ok.1)
    sized value d false long h = absurd (cc)

    go : (r : Result (List ℕ) FromHexError) → decode_of digits ≡ r →
        option_and_then (fixed_element n) (result_ok r) ≡ Some e → (length digits ≡ 2 * n) × AllPass is_hex_digit digits
    go (Ok value) d h = sized value d (length value == n) refl h
    go (Err error) d h = absurd (cc)

-- what begins with no element has no elements
no_first : (n : ℕ) (text : List ℕ) →
    ((digits : List ℕ) (rest : Option (List ℕ)) (e : Element) → element_of (fixed n) (104 ∷ digits) ≡ Some e →
    length digits ≡ 2 * n → text ≡ 104 ∷ (digits ++ after rest) → ⊥) → written_bytes n (split_at 32 text) ≡ None
no_first n text never = let first = first_word text in
    ap (written_bytes n) first.parted ∙ go first.word first.rest first.joined (element_of (fixed n) first.word) refl
  where
    starts : (word : List ℕ) (rest : Option (List ℕ)) (e : Element) → text ≡ word ++ after rest →
        element_of (fixed n) word ≡ Some e → ⊥
    starts [] rest e joined is = cc
    starts (b ∷ digits) rest e joined is = with_h (b == 104) refl is
      where
        with_h : (t : Bool) → (b == 104) ≡ t →
            option_and_then (fixed_element n) (cond t (result_ok (decode_of digits)) None) ≡ Some e → ⊥
        with_h true h some = never digits rest e some (digits_decode n digits e some).0
            (joined ∙ ap (λ c. c ∷ (digits ++ after rest)) (eqb-true b 104 h))
        with_h false h some = cc

    go : (word : List ℕ) (rest : Option (List ℕ)) → text ≡ word ++ after rest → (o : Option Element) →
        element_of (fixed n) word ≡ o →
        written_bytes n (word ∷ option_map_or (split_at 32) rest []) ≡ None
    go word rest joined (Some e) is = absurd (starts word rest e joined is)
    go word rest joined None is = ap (λ o. option_map (flat_map bytes_of)
        (all_some (o ∷ map (element_of (fixed n)) (option_map_or (split_at 32) rest [])))) is

-- so where no `h` is in front
pub no_h : (n : ℕ) (text : List ℕ) → ((rest : List ℕ) → text ≢ 104 ∷ rest) → written_bytes n (split_at 32 text) ≡ None
no_h n text other = no_first n text (λ digits rest e some long is. other (digits ++ after rest) is)

-- where the text is too short
pub too_short : (n : ℕ) (others : List ℕ) → length others < 2 * n → written_bytes n (split_at 32 (104 ∷ others)) ≡ None
too_short n others short = no_first n (104 ∷ others) (λ digits rest e some long joined.
    let same : others ≡ digits ++ after rest = cons_tail joined in
    let counts = ap (λ l. length l) same in omega (arith, counts, length-append digits (after rest)))
  where
    cons_tail : {a b : ℕ} {xs ys : List ℕ} → a ∷ xs ≡ b ∷ ys → xs ≡ ys
    cons_tail e = ap (λ l. drop 1 l) e

-- where something else follows
pub no_space : (n : ℕ) (text digits : List ℕ) (b : ℕ) (others : List ℕ) → text ≡ digits ++ b ∷ others →
    length digits ≡ 2 * n → (b ≡ 32 → ⊥) → written_bytes n (split_at 32 (104 ∷ text)) ≡ None
no_space n text digits b others is long other = no_first n (104 ∷ text) (λ first rest e some as_long joined.
    let same : b ∷ others ≡ after rest = sym (drop_at digits (b ∷ others) (2 * n) long) ∙ (ap (drop (2 * n)) (sym is)
    ∙ (ap (λ l. drop (2 * n) (drop 1 l)) joined ∙ drop_at first (after rest) (2 * n) as_long)) in
    go rest same)
  where
    go : (rest : Option (List ℕ)) → b ∷ others ≡ after rest → ⊥
    go None e = cc
    go (Some left) e = other (ap (λ l. get_or l 0 0) e)

-- and where the digits are none
pub undecoded : (n : ℕ) (text digits : List ℕ) (rest : Option (List ℕ)) → length digits ≡ 2 * n →
    text ≡ 104 ∷ (digits ++ after rest) → element_of (fixed n) (104 ∷ digits) ≡ None →
    written_bytes n (split_at 32 text) ≡ None
undecoded n text digits rest long is none = no_first n text (λ first others e some as_long joined.
    let same : digits ≡ first = sym (take_at digits (after rest) (2 * n) long)
    ∙ (ap (λ l. take (2 * n) (drop 1 l)) (sym is ∙ joined) ∙ take_at first (after others) (2 * n) as_long) in
    let gone : element_of (fixed n) (104 ∷ first) ≡ None = ap (λ l. element_of (fixed n) (104 ∷ l)) (sym same) ∙ none in
    cc)

-- an element in front is the first word
element_parted : (n : ℕ) (digits : List ℕ) (rest : Option (List ℕ)) (e : Element) →
    element_of (fixed n) (104 ∷ digits) ≡ Some e →
    split_at 32 (104 ∷ (digits ++ after rest)) ≡ (104 ∷ digits) ∷ option_map_or (split_at 32) rest []
element_parted n digits rest e is = go rest
  where
    no_digit : (c : ℕ) → is_hex_digit c ≡ true → (b : Bool) → (c == 32) ≡ b → b ≡ false
    no_digit c h true e = let at : is_hex_digit 32 ≡ true = subst (λ x. is_hex_digit x ≡ true) (eqb-true c 32 e) h in
        absurd (cc)
    no_digit c h false e = refl

    others : All (λ b. (b == 32) ≡ false) (104 ∷ digits)
    others = All-cons (λ b. (b == 32) ≡ false) 104 digits refl
        (λ k d h. no_digit (get_or digits k d) ((digits_decode n digits e is).1 k d h) (get_or digits k d == 32) refl)

    go : (rest : Option (List ℕ)) →
        split_at 32 (104 ∷ (digits ++ after rest)) ≡ (104 ∷ digits) ∷ option_map_or (split_at 32) rest []
    go None = ap (split_at 32) (append-nil (104 ∷ digits)) ∙ slice_split_none (λ b. b == 32) (104 ∷ digits) others
    go (Some left) = slice_split_at (λ b. b == 32) (104 ∷ digits) 32 left others refl

-- digits of as many bytes are the element that they decode to, if they do
pub element_of_decoded : (n : ℕ) (digits bytes : List ℕ) → length digits ≡ 2 * n → decode_sized digits n ≡ Ok bytes →
    IsElement (element_of (fixed n) (104 ∷ digits)) true bytes
element_of_decoded n digits bytes long decoded =
    let whole : decode_of digits ≡ Ok bytes = sym (decode_sized-twice digits n long) ∙ decoded in
    let many : length bytes ≡ n = omega (arith, long, (decode_of-ok digits bytes whole).2) in
    ap (λ r. option_and_then (fixed_element n) (result_ok r)) whole
    ∙ cond-true (length bytes == n) (Some (of_bytes bytes)) None (eq-eqb (length bytes) n many)

pub element_of_undecoded : (n : ℕ) (digits bytes : List ℕ) (error : FromHexError) → length digits ≡ 2 * n →
    decode_sized digits n ≡ Err error → IsElement (element_of (fixed n) (104 ∷ digits)) false bytes
element_of_undecoded n digits bytes error long failed =
    ap (λ r. option_and_then (fixed_element n) (result_ok r)) (sym (decode_sized-twice digits n long) ∙ failed)

-- the bytes of words, with one more element of them before
bytes_put : {A : Type 0} (f : A → List ℕ) (before : List ℕ) (x : A) (o : Option (List A)) →
    option_map (λ bytes. (before ++ f x) ++ bytes) (option_map (flat_map f) o) ≡
    option_map (λ bytes. before ++ bytes) (option_map (flat_map f) (option_map (λ xs. x ∷ xs) o))
bytes_put f before x None = refl
bytes_put f before x (Some xs) = ap Some (append_assoc before (f x) (flat_map f xs))

pub written_step : (n : ℕ) (first : List ℕ) (rest : List (List ℕ)) (before now : List ℕ) (all : Option (List ℕ)) →
    PushesElement (element_of (fixed n) first) true before now →
    option_map (λ bytes. before ++ bytes) (written_bytes n (first ∷ rest)) ≡ all →
    option_map (λ bytes. now ++ bytes) (written_bytes n rest) ≡ all
written_step n first rest before now all (bytes, is, put) e =
    ap (λ b. option_map (λ bytes. b ++ bytes) (written_bytes n rest)) put
    ∙ (bytes_put bytes_of before (of_bytes bytes) (all_some (map (element_of (fixed n)) rest))
    ∙ (ap (λ o. option_map
    (λ b. before ++ b) (option_map (flat_map bytes_of) (all_some (o ∷ map (element_of (fixed n)) rest)))) (sym is) ∙ e))

-- an element in front is the first of the words that are left
first_parted : (n : ℕ) (text digits : List ℕ) (rest : Option (Bor (List ℕ))) (e : Element) →
    text ≡ 104 ∷ (digits ++ behind_space rest) → element_of (fixed n) (104 ∷ digits) ≡ Some e →
    split_at 32 text ≡ (104 ∷ digits) ∷ words_left rest
first_parted n text digits None e joined is = ap (split_at 32) joined ∙ element_parted n digits None e is
first_parted n text digits (Some others) e joined is =
    ap (split_at 32) joined ∙ element_parted n digits (Some others.now) e is

pub word_step : (n : ℕ) (text digits : List ℕ) (rest : Option (Bor (List ℕ))) (before now : List ℕ)
    (all : Option (List ℕ)) → text ≡ 104 ∷ (digits ++ behind_space rest) →
    PushesElement (element_of (fixed n) (104 ∷ digits)) true before now →
    option_map (λ bytes. before ++ bytes) (written_bytes n (split_at 32 text)) ≡ all →
    option_map (λ bytes. now ++ bytes) (written_bytes n (words_left rest)) ≡ all
word_step n text digits rest before now all joined pushed e =
    written_step n (104 ∷ digits) (words_left rest) before now all pushed
    (ap (λ ws. option_map (λ bytes. before ++ bytes) (written_bytes n ws))
    (sym (first_parted n text digits rest (of_bytes pushed.0) joined pushed.1)) ∙ e)

pub no_words : (n : ℕ) (text before : List ℕ) (all : Option (List ℕ)) → written_bytes n (split_at 32 text) ≡ None →
    option_map (λ bytes. before ++ bytes) (written_bytes n (split_at 32 text)) ≡ all → None ≡ all
no_words n text before all none e = ap (option_map (λ bytes. before ++ bytes)) (sym none) ∙ e

pub word_none : (n : ℕ) (text digits : List ℕ) (rest : Option (Bor (List ℕ))) (before now : List ℕ)
    (all : Option (List ℕ)) → length digits ≡ 2 * n → text ≡ 104 ∷ (digits ++ behind_space rest) →
    PushesElement (element_of (fixed n) (104 ∷ digits)) false before now →
    option_map (λ bytes. before ++ bytes) (written_bytes n (split_at 32 text)) ≡ all → None ≡ all
word_none n text digits rest before now all long joined none e =
    no_words n text before all (undecoded_first rest joined) e
  where
    undecoded_first : (rest : Option (Bor (List ℕ))) → text ≡ 104 ∷ (digits ++ behind_space rest) →
        written_bytes n (split_at 32 text) ≡ None
    undecoded_first None joined = undecoded n text digits None long joined none
    undecoded_first (Some others) joined = undecoded n text digits (Some others.now) long joined none

-- bytes put behind the first `at` are pushed behind them, if they are an element's
pub element_put : (o : Option Element) (found : Bool) (at long to : ℕ) (places bytes : List ℕ) →
    IsElement o found bytes → to ≡ at + length bytes → at ≤ length places →
    PushesElement o found (take at places) (take to (put_mid at long places bytes))
element_put o true at long to places bytes is ends within =
    (bytes, is, take-put_mid at long places bytes to ends within)
element_put o false at long to places bytes is ends within = is

-- an element takes its part of the room
one_less : (n all k : ℕ) → all ≡ 2 * (n + 1) + k → all / 2 / (n + 1) * n ≡ k / 2 / (n + 1) * n + n
one_less n all k e =
    let half : all / 2 ≡ (n + 1) + k / 2 = omega (arith, e) in
    let some : 0 < n + 1 = omega arith in
    let next : suc (k / 2 / (n + 1)) ≡ k / 2 / (n + 1) + 1 = omega arith in
    ap (λ (m : ℕ). m / (n + 1) * n) half
    ∙ (ap (λ (m : ℕ). m * n) (add-div_left (k / 2) some ∙ sym next) ∙ suc-mul (k / 2 / (n + 1)) n)

pub room_step : (n : ℕ) (text digits : List ℕ) (rest : Option (Bor (List ℕ))) (at long : ℕ) →
    text ≡ 104 ∷ (digits ++ behind_space rest) → length digits ≡ 2 * n →
    at + (length text + 1) / 2 / (n + 1) * n ≤ long → at + n + room_left n rest ≤ long
room_step n text digits None at long joined wide fits =
    let count = ap (λ l. length l) joined in
    let all : length text + 1 ≡ 2 * (n + 1) + 0 = omega (arith, count, wide, length-append digits []) in
    let less = one_less n (length text + 1) 0 all in omega (arith, less, fits)
room_step n text digits (Some others) at long joined wide fits =
    let count = ap (λ l. length l) joined in
    let all : length text + 1 ≡ 2 * (n + 1) + (length others.now + 1) =
    omega (arith, count, wide, length-append digits (32 ∷ others.now)) in
    let less = one_less n (length text + 1) (length others.now + 1) all in omega (arith, less, fits)

pub ruleset no_digits = (too_short, no_space)

pub ruleset of_words = (word_step, no_words, word_none)
