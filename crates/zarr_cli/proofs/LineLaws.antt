-- Lines that are read one after another.
use Rattle.std.proofs.Common.{◌≡◌, ℕ, zero, suc, ◌+◌, ◌-◌, ◌<◌, ◌≤◌, Bool, true, false, ◌==◌, List, [], ◌∷◌, ◌++◌}
use Rattle.std.proofs.Common.{length, take, get_or, map, count_by, IsUtf8, String, string_bytes, refl}
use Rattle.std.proofs.Common.{sym, ap, ◌∙◌, subst, arith, cond, eqb-true, eq-eqb, true≢false, ⊎_elim, ◌⊎◌, inl, inr}
use Rattle.std.proofs.Common.{append_assoc, append-nil, length-append, length-take, take_all, take_at, drop_at}
use Rattle.std.specs.Str.{IsValidUpTo, is_utf8}
use Rattle.std.specs.Str.Lossy.{valid_len_up_to}
use Rattle.std.proofs.lemmas.List.{length-map}
use Rattle.std.proofs.lemmas.List.Splits.{slice_split_at, slice_split_none, length-slice_split}
use Rattle.std.proofs.lemmas.Str.{IsUtf8-nil, IsUtf8-from_ascii, IsUtf8-append, IsUtf8-take, IsUtf8-drop}
use Rattle.std.proofs.lemmas.Str.{IsUtf8-from_is_utf8, is_utf8-from_IsUtf8, IsUtf8-string_bytes}
use Rattle.std.proofs.lemmas.Str.{IsCharBoundary-from_take, IsCharBoundary-before_ascii}
use Rattle.zarr_cli_runs.specs.lines.Text.{split_at, input_lines, without_last_empty, line_at}
use Rattle.zarr_cli.specs.Steps.{with_newlines, NoNewline, AreWhole}

-- the parts of lines that ended and of one more
split_ended : (lines : List (List ℕ)) (line : List ℕ) → AreWhole lines → NoNewline line →
    split_at 10 (with_newlines lines ++ line) ≡ lines ++ line ∷ []
split_ended [] line all none = slice_split_none (λ b. b == 10) line none
split_ended (first ∷ lines) line all none =
    ap (split_at 10) (append_assoc (first ++ 10 ∷ []) (with_newlines lines) line
    ∙ append_assoc first (10 ∷ []) (with_newlines lines ++ line))
    ∙ (slice_split_at (λ b. b == 10) first 10 (with_newlines lines ++ line) all.0 refl
    ∙ ap (λ parts. first ∷ parts) (split_ended lines line all.1 none))

-- the last one counts where it is not empty, or the only one
keeps_last : (lines : List (List ℕ)) (x : ℕ) (line : List ℕ) →
    without_last_empty (lines ++ (x ∷ line) ∷ []) ≡ lines ++ (x ∷ line) ∷ []
keeps_last [] x line = refl
keeps_last (a ∷ []) x line = refl
keeps_last (a ∷ [] ∷ []) x line = ap (λ others. a ∷ others) (keeps_last ([] ∷ []) x line)
keeps_last (a ∷ [] ∷ c ∷ lines) x line = ap (λ others. a ∷ others) (keeps_last ([] ∷ c ∷ lines) x line)
keeps_last (a ∷ (b ∷ bs) ∷ lines) x line = ap (λ others. a ∷ others) (keeps_last ((b ∷ bs) ∷ lines) x line)

drops_last : (line : List ℕ) (lines : List (List ℕ)) → without_last_empty ((line ∷ lines) ++ [] ∷ []) ≡ line ∷ lines
drops_last a [] = refl
drops_last a ([] ∷ []) = ap (λ others. a ∷ others) (drops_last [] [])
drops_last a ([] ∷ c ∷ lines) = ap (λ others. a ∷ others) (drops_last [] (c ∷ lines))
drops_last a ((b ∷ bs) ∷ lines) = ap (λ others. a ∷ others) (drops_last (b ∷ bs) lines)

-- the lines of an input that ends in the middle of a line, or has none
pub lines_behind : (lines : List (List ℕ)) (line : List ℕ) → AreWhole lines → NoNewline line → 0 < length line →
    input_lines (with_newlines lines ++ line) ≡ lines ++ line ∷ []
lines_behind lines [] all none some = absurd (omega arith)
lines_behind lines (x ∷ line) all none some =
    ap without_last_empty (split_ended lines (x ∷ line) all none) ∙ keeps_last lines x line

pub no_lines : (line : List ℕ) → NoNewline line → input_lines line ≡ line ∷ []
no_lines line none = ap without_last_empty (slice_split_none (λ b. b == 10) line none)

-- and of one that ends with a line
pub lines_ended : (lines : List (List ℕ)) → AreWhole lines → 0 < length lines →
    input_lines (with_newlines lines) ≡ lines
lines_ended [] all some = absurd (omega arith)
lines_ended (first ∷ lines) all some =
    ap input_lines (sym (append-nil (with_newlines (first ∷ lines))))
    ∙ (ap without_last_empty (split_ended (first ∷ lines) [] all (λ k d h. absurd (omega arith)))
    ∙ drops_last first lines)

-- the newlines of lines that ended, and of the front of one more
newlines : (lines : List (List ℕ)) (line : List ℕ) → AreWhole lines → NoNewline line →
    count_by (λ b. b == 10) (with_newlines lines ++ line) ≡ length lines
newlines lines line all none =
    omega (
      arith,
      length-slice_split (λ b. b == 10) (with_newlines lines ++ line),
      ap (λ (l : List (List ℕ)). length l) (split_ended lines line all none),
      length-append lines (line ∷ []),
    )

-- texts are UTF-8, also together
pub utf8_ended : {Z : Type 0} (lines : List (String Z)) → IsUtf8 (with_newlines (map string_bytes lines))
utf8_ended [] = IsUtf8-nil
utf8_ended (line ∷ lines) =
    IsUtf8-append (string_bytes line ++ 10 ∷ []) (with_newlines (map string_bytes lines)) (IsUtf8-append
    (string_bytes line) (10 ∷ []) (IsUtf8-string_bytes line) (IsUtf8-from_ascii (10 ∷ []) newline)) (utf8_ended lines)
  where
    newline : (i : ℕ) → get_or (10 ∷ []) i 0 < 128
    newline zero = omega arith
    newline (suc i) = omega arith

-- what is no UTF-8 has a longest front that is
valid_up : (bs : List ℕ) (n : ℕ) → ((m : ℕ) → n < m → ¬ (IsUtf8 (take m bs))) → n < length bs →
    IsValidUpTo bs (valid_len_up_to bs n)
valid_up bs zero longer short = record { short = short; front = IsUtf8-nil; longest = longer }
valid_up bs (suc n) longer short = go (is_utf8 (take (suc n) bs)) refl (λ below. valid_up bs n below (omega arith))
  where
    below : is_utf8 (take (suc n) bs) ≡ false → (m : ℕ) → n < m → IsUtf8 (take m bs) → (b : Bool) → (m == suc n) ≡ b → ⊥
    below is m above utf8 true e =
        let same : m ≡ suc n = eqb-true m (suc n) e in
        let yes : is_utf8 (take (suc n) bs) ≡ true =
        subst (λ k. is_utf8 (take k bs) ≡ true) same (is_utf8-from_IsUtf8 (take m bs) utf8) in
        true≢false (sym yes ∙ is)
    below is m above utf8 false e =
        let other : ¬ (m ≡ suc n) = λ same. true≢false (sym (eq-eqb m (suc n) same) ∙ e) in
        longer m (omega (arith, above, other)) utf8

    go : (b : Bool) → is_utf8 (take (suc n) bs) ≡ b → (((m : ℕ) → n < m → ¬ (IsUtf8 (take m bs))) →
        IsValidUpTo bs (valid_len_up_to bs n)) → IsValidUpTo bs (cond b (suc n) (valid_len_up_to bs n))
    go true is next = record { short = short; front = IsUtf8-from_is_utf8 (take (suc n) bs) is; longest = longer }
    go false is next = next (λ m above utf8. below is m above utf8 (m == suc n) refl)

bad_up : (bs : List ℕ) → ¬ (IsUtf8 bs) → IsValidUpTo bs (valid_len_up_to bs (length bs))
bad_up [] bad = absurd (bad IsUtf8-nil)
bad_up (x ∷ bs) bad = go (is_utf8 (take (suc (length bs)) (x ∷ bs))) refl
  where
    whole : (m : ℕ) → length bs < m → IsUtf8 (take m (x ∷ bs)) → ⊥
    whole m above utf8 = bad (subst IsUtf8 (take_all m (x ∷ bs) (omega arith)) utf8)

    go : (b : Bool) → is_utf8 (take (suc (length bs)) (x ∷ bs)) ≡ b →
        IsValidUpTo (x ∷ bs) (cond b (suc (length bs)) (valid_len_up_to (x ∷ bs) (length bs)))
    go true is =
        absurd (whole (suc (length bs)) (omega arith) (IsUtf8-from_is_utf8 (take (suc (length bs)) (x ∷ bs)) is))
    go false is = valid_up (x ∷ bs) (length bs) whole (omega arith)

-- fronts of two lists together
take_past : (xs ys : List ℕ) (k m : ℕ) → m ≡ length xs + k → take m (xs ++ ys) ≡ xs ++ take k ys
take_past [] ys k m is = ap (λ j. take j ys) (omega (arith, is))
take_past (x ∷ xs) ys k zero is = absurd (omega (arith, is))
take_past (x ∷ xs) ys k (suc m) is = ap (λ l. x ∷ l) (take_past xs ys k m (omega (arith, is)))

take_within : (k : ℕ) (xs ys : List ℕ) → k ≤ length xs → take k (xs ++ ys) ≡ take k xs
take_within zero xs ys le = refl
take_within (suc k) [] ys le = absurd (omega arith)
take_within (suc k) (x ∷ xs) ys le = ap (λ l. x ∷ l) (take_within k xs ys (omega arith))

get_or-take : (j : ℕ) (xs : List ℕ) (i : ℕ) (d : ℕ) → i < j → get_or (take j xs) i d ≡ get_or xs i d
get_or-take zero xs i d h = absurd (omega arith)
get_or-take (suc j) [] i d h = refl
get_or-take (suc j) (x ∷ xs) zero d h = refl
get_or-take (suc j) (x ∷ xs) (suc i) d h = get_or-take j xs i d (omega arith)

-- the first byte that is none, of a line behind lines that are UTF-8
bad_behind : (done bad rest : List ℕ) (n : ℕ) → IsUtf8 done → IsValidUpTo bad n →
    ((k : ℕ) → length bad < k → IsUtf8 (take k (bad ++ rest)) → IsUtf8 bad) →
    IsValidUpTo (done ++ (bad ++ rest)) (length done + n)
bad_behind done bad rest n utf8 up ends = record {
  short = (let short = up.short in omega (arith, length-append done (bad ++ rest), length-append bad rest, short));
  front = subst IsUtf8 (sym (take_past done (bad ++ rest) n (length done + n) refl))
      (IsUtf8-append done (take n (bad ++ rest)) utf8
      (subst IsUtf8 (sym (take_within n bad rest (let short = up.short in omega (arith, short)))) up.front));
  longest = longer;
}
  where
    in_bad : (k : ℕ) → n < k → IsUtf8 (take k (bad ++ rest)) → ⊥
    in_bad k above text = ⊎_elim
        (λ (le : k ≤ length bad). up.longest k above (subst IsUtf8 (take_within k bad rest le) text))
        (λ (gt : length bad < k). up.longest (length bad) up.short
        (subst IsUtf8 (sym (take_all (length bad) bad (omega arith))) (ends k gt text)))
        (split k (length bad))
      where
        split : (a b : ℕ) → (a ≤ b) ⊎ (b < a)
        split zero b = inl (omega arith)
        split (suc a) zero = inr (omega arith)
        split (suc a) (suc b) =
            ⊎_elim (λ (le : a ≤ b). inl (omega (arith, le))) (λ (gt : b < a). inr (omega (arith, gt))) (split a b)

    longer : (m : ℕ) → length done + n < m → IsUtf8 (take m (done ++ (bad ++ rest))) → ⊥
    longer m above text =
        let k : ℕ = m - length done in
        let many : m ≡ length done + k = omega (arith, above) in
        let parts : take m (done ++ (bad ++ rest)) ≡ done ++ take k (bad ++ rest) =
        take_past done (bad ++ rest) k m many in
        let whole : IsUtf8 (done ++ take k (bad ++ rest)) = subst IsUtf8 parts text in
        let cut = IsCharBoundary-from_take (done ++ take k (bad ++ rest)) (length done) whole
        (omega (arith, length-append done (take k (bad ++ rest)))) (subst IsUtf8
        (sym (take_at done (take k (bad ++ rest)) (length done) refl)) utf8) in
        in_bad k (omega (arith, above)) (subst IsUtf8 (drop_at done (take k (bad ++ rest)) (length done) refl)
        (IsUtf8-drop (done ++ take k (bad ++ rest)) (length done) whole cut))

-- so where nothing, or a newline, follows the line
pub ends_none : (bad : List ℕ) (k : ℕ) → length bad < k → IsUtf8 (take k (bad ++ [])) → IsUtf8 bad
ends_none bad k above text = subst IsUtf8 (ap (take k) (append-nil bad) ∙ take_all k bad (omega arith)) text

pub ends_newline : (bad rest : List ℕ) (k : ℕ) → length bad < k → IsUtf8 (take k (bad ++ 10 ∷ rest)) → IsUtf8 bad
ends_newline bad rest k above text =
    let front = take k (bad ++ 10 ∷ rest) in
    let long : length bad < length front =
    omega (arith, length-take k (bad ++ 10 ∷ rest), length-append bad (10 ∷ rest)) in
    let here : get_or front (length bad) 0 ≡ 10 =
    get_or-take k (bad ++ 10 ∷ rest) (length bad) 0 above ∙ get_or-at bad rest in
    subst IsUtf8 (take_take_front bad rest k above)
    (IsUtf8-take front (length bad) text (IsCharBoundary-before_ascii front (length bad) long (omega (arith, here))))
  where
    get_or-at : (xs ys : List ℕ) → get_or (xs ++ 10 ∷ ys) (length xs) 0 ≡ 10
    get_or-at [] ys = refl
    get_or-at (x ∷ xs) ys = get_or-at xs ys

    take_take_front : (xs ys : List ℕ) (j : ℕ) → length xs < j → take (length xs) (take j (xs ++ 10 ∷ ys)) ≡ xs
    take_take_front [] ys j h = refl
    take_take_front (x ∷ xs) ys zero h = absurd (omega arith)
    take_take_front (x ∷ xs) ys (suc j) h = ap (λ l. x ∷ l) (take_take_front xs ys j (omega arith))

-- a line that is no UTF-8, behind lines that are: its number is that of the first byte that is none
pub bad_line : {Z : Type 0} (lines : List (String Z)) (bad rest : List ℕ) → AreWhole (map string_bytes lines) →
    NoNewline bad → ¬ (IsUtf8 bad) → ((k : ℕ) → length bad < k → IsUtf8 (take k (bad ++ rest)) → IsUtf8 bad) →
    (n : ℕ) × IsValidUpTo (with_newlines (map string_bytes lines) ++ (bad ++ rest)) n ×
    (length lines + 1 ≡ line_at (with_newlines (map string_bytes lines) ++ (bad ++ rest)) n)
bad_line lines bad rest all none not_utf8 ends =
    let done = with_newlines (map string_bytes lines) in
    let n = valid_len_up_to bad (length bad) in
    let up = bad_up bad not_utf8 in
    let short = up.short in
    let front : take (length done + n) (done ++ (bad ++ rest)) ≡ done ++ take n bad =
    take_past done (bad ++ rest) n (length done + n) refl
    ∙ ap (λ l. done ++ l) (take_within n bad rest (omega (arith, short))) in (
      length done + n,
      bad_behind done bad rest n (utf8_ended lines) up ends,
      omega (
        arith,
        length-map lines string_bytes,
        ap (count_by (λ b. b == 10)) front,
        newlines (map string_bytes lines) (take n bad) all (cut n),
      ),
    )
  where
    cut : (n : ℕ) → NoNewline (take n bad)
    cut n k d h = ap (λ b. b == 10) (get_or-take n bad k d (omega (arith, length-take n bad, h)))
        ∙ none k d (omega (arith, length-take n bad, h))
