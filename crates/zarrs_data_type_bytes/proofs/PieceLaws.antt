-- Bytes piece by piece: lengths, one more piece, the same change twice, and lists again and again.
use Rattle.std.proofs.Common.{◌≡◌, ℕ, zero, suc, ◌+◌, ◌-◌, ◌*◌, ◌/◌, ◌<◌, ◌≤◌, List, [], ◌∷◌, ◌++◌, length, take}
use Rattle.std.proofs.Common.{drop, reverse, refl, sym, ap, ap₂, ◌∙◌, subst, arith}
use Rattle.std.proofs.lemmas.List.{length-append, length-take-le, length-drop, take-append-drop, append_assoc}
use Rattle.std.proofs.lemmas.List.{reverse-reverse, length-reverse, append-nil}
use Rattle.std.proofs.Math.Seq.{take-append-add, drop-append-add, take-append_seam, drop-append_seam}
use Rattle.std.proofs.Math.Nat.{suc-mul, mul-le-mul_right, div-mul-le_self}
use Rattle.zarrs_data_type_bytes.specs.Pieces.{repeated, in_pieces, components_reversed}

-- a change of a piece of n bytes gives n bytes
abbrev pub Keeps : (List ℕ → List ℕ) → ℕ → Type 0
Keeps change n = (piece : List ℕ) → length piece ≡ n → length (change piece) ≡ n

first_long : (n k : ℕ) (bytes : List ℕ) → suc k * n ≤ length bytes → length (take n bytes) ≡ n
first_long n k bytes h = length-take-le n bytes (omega (arith, h, suc-mul k n))

rest_long : (n k : ℕ) (bytes : List ℕ) → suc k * n ≤ length bytes → k * n ≤ length (drop n bytes)
rest_long n k bytes h = omega (arith, h, suc-mul k n, length-drop n bytes)

-- what comes after the first piece of n bytes
take_past : (n m : ℕ) (piece rest : List ℕ) → length piece ≡ n → take (n + m) (piece ++ rest) ≡ piece ++ take m rest
take_past n m piece rest e =
    subst (λ k. take (k + m) (piece ++ rest) ≡ piece ++ take m rest) e (take-append-add piece rest m)

drop_past : (n m : ℕ) (piece rest : List ℕ) → length piece ≡ n → drop (n + m) (piece ++ rest) ≡ drop m rest
drop_past n m piece rest e = subst (λ k. drop (k + m) (piece ++ rest) ≡ drop m rest) e (drop-append-add piece rest m)

module _ (change : List ℕ → List ℕ) (n : ℕ) (keeps : Keeps change n) where
  pub length-in_pieces : (k : ℕ) (bytes : List ℕ) → k * n ≤ length bytes →
      length (in_pieces change k n bytes) ≡ length bytes
  length-in_pieces zero bytes h = refl
  length-in_pieces (suc k) bytes h =
      length-append (change (take n bytes)) (in_pieces change k n (drop n bytes))
      ∙ (ap₂ (λ a b. a + b) (keeps (take n bytes) (first_long n k bytes h))
      (length-in_pieces k (drop n bytes) (rest_long n k bytes h) ∙ length-drop n bytes)
      ∙ (let e : n + (length bytes - n) ≡ length bytes = omega (arith, h, suc-mul k n) in e))

  -- one more piece is changed
  pub in_pieces-step : (k : ℕ) (bytes : List ℕ) → suc k * n ≤ length bytes → in_pieces change (suc k) n bytes
      ≡ take (k * n) (in_pieces change k n bytes) ++ (change (take n (drop (k * n) (in_pieces change k n bytes)))
      ++ drop n (drop (k * n) (in_pieces change k n bytes)))
  in_pieces-step zero bytes h =
      let none : 0 ≡ 0 * n = omega arith in
      ap (λ m. take m bytes ++ (change (take n (drop m bytes)) ++ drop n (drop m bytes))) none
  in_pieces-step (suc k) bytes h =
      let piece = change (take n bytes) in
      let rest = in_pieces change k n (drop n bytes) in
      let more : suc k * n ≤ length bytes = omega (arith, h, suc-mul (suc k) n, suc-mul k n) in
      let long : length piece ≡ n = keeps (take n bytes) (first_long n k bytes more) in
      let at : suc k * n ≡ n + k * n = omega (arith, suc-mul k n) in
      let front : take (suc k * n) (piece ++ rest) ≡ piece ++ take (k * n) rest =
      ap (λ m. take m (piece ++ rest)) at ∙ take_past n (k * n) piece rest long in
      let back : drop (suc k * n) (piece ++ rest) ≡ drop (k * n) rest =
      ap (λ m. drop m (piece ++ rest)) at ∙ drop_past n (k * n) piece rest long in
      ap (λ l. piece ++ l) (in_pieces-step k (drop n bytes) (rest_long n (suc k) bytes h))
      ∙
      (sym (append_assoc piece (take (k * n) rest) (change (take n (drop (k * n) rest)) ++ drop n (drop (k * n) rest)))
      ∙ ap₂ (λ l m. l ++ (change (take n m) ++ drop n m)) (sym front) (sym back))

  -- a change that settles pieces settles all; one that is undone by itself is undone in all
  pub in_pieces-again : (settled : List ℕ → List ℕ) →
      ((piece : List ℕ) → length piece ≡ n → change (change piece) ≡ settled piece) →
      (k : ℕ) (bytes : List ℕ) → k * n ≤ length bytes →
      in_pieces change k n (in_pieces change k n bytes) ≡ in_pieces settled k n bytes
  in_pieces-again settled again zero bytes h = refl
  in_pieces-again settled again (suc k) bytes h =
      let piece = change (take n bytes) in
      let rest = in_pieces change k n (drop n bytes) in
      let long : length piece ≡ n = keeps (take n bytes) (first_long n k bytes h) in
      ap₂ (λ a b. a ++ b)
      (ap change (subst (λ m. take m (piece ++ rest) ≡ piece) long (take-append_seam piece rest))
      ∙ again (take n bytes) (first_long n k bytes h))
      (ap (in_pieces change k n) (subst (λ m. drop m (piece ++ rest) ≡ rest) long (drop-append_seam piece rest))
      ∙ in_pieces-again settled again k (drop n bytes) (rest_long n k bytes h))

-- nothing is changed
pub in_pieces-same : (k n : ℕ) (bytes : List ℕ) → in_pieces (λ piece. piece) k n bytes ≡ bytes
in_pieces-same zero n bytes = refl
in_pieces-same (suc k) n bytes =
    ap (λ l. take n bytes ++ l) (in_pieces-same k n (drop n bytes)) ∙ take-append-drop n bytes

pub whole_pieces : (n : ℕ) (bytes : List ℕ) → length bytes / n * n ≤ length bytes
whole_pieces n bytes = div-mul-le_self (length bytes) n

pub reverse_keeps : (n : ℕ) → Keeps reverse n
reverse_keeps n piece e = length-reverse piece ∙ e

-- reversing twice
pub reversed_back : (n : ℕ) (bytes : List ℕ) → components_reversed n (components_reversed n bytes) ≡ bytes
reversed_back n bytes =
    ap (λ m. in_pieces reverse (m / n) n (components_reversed n bytes))
    (length-in_pieces reverse n (reverse_keeps n) (length bytes / n) bytes (whole_pieces n bytes))
    ∙ (in_pieces-again reverse n (reverse_keeps n) (λ piece. piece) (λ piece e. reverse-reverse piece)
    (length bytes / n) bytes (whole_pieces n bytes)
    ∙ in_pieces-same (length bytes / n) n bytes)

-- the loop over pieces: the part at place k is changed
pub more_pieces : (change : List ℕ → List ℕ) (n k all at : ℕ) (bytes now piece : List ℕ) → Keeps change n → k < all →
    all * n ≤ length bytes →
    now ≡ in_pieces change k n bytes → at ≡ n → piece ≡ change (take at (drop (k * n) now)) →
    take (k * n) now ++ (piece ++ drop at (drop (k * n) now)) ≡ in_pieces change (k + 1) n bytes
more_pieces change n k all at bytes now piece keeps below room is at_is piece_is =
    let fits : suc k * n ≤ all * n = mul-le-mul_right n (let one : suc k ≤ all = omega arith in one) in
    ap (λ l. take (k * n) now ++ (l ++ drop at (drop (k * n) now))) piece_is
    ∙ (ap₂ (λ l m. take (k * n) l ++ (change (take m (drop (k * n) l)) ++ drop m (drop (k * n) l))) is at_is
    ∙ (sym (in_pieces-step change n keeps k bytes (omega (arith, fits, room)))
    ∙ ap (λ m. in_pieces change m n bytes) (let one : suc k ≡ k + 1 = omega arith in one)))

-- a list again and again
pub length-repeated : (k : ℕ) (list : List ℕ) → length (repeated k list) ≡ k * length list
length-repeated zero list = omega arith
length-repeated (suc k) list = length-append list (repeated k list)
    ∙ (ap (λ n. length list + n) (length-repeated k list) ∙ omega (arith, suc-mul k (length list)))

pub repeated_piece : (k i : ℕ) (list : List ℕ) → i < k →
    take (length list) (drop (i * length list) (repeated k list)) ≡ list
repeated_piece zero i list h = absurd (omega arith)
repeated_piece (suc k) zero list h =
    let none : 0 * length list ≡ 0 = omega arith in
    ap (λ m. take (length list) (drop m (list ++ repeated k list))) none ∙ take-append_seam list (repeated k list)
repeated_piece (suc k) (suc i) list h =
    ap (take (length list))
    (ap (λ m. drop m (list ++ repeated k list)) (let at : suc i * length list ≡ length list + i * length list =
    omega (arith, suc-mul i (length list)) in at) ∙ drop-append-add list (repeated k list) (i * length list))
    ∙ repeated_piece k i list (omega arith)

pub repeated_step : (k : ℕ) (list : List ℕ) → repeated (k + 1) list ≡ repeated k list ++ list
repeated_step zero list = append-nil list
repeated_step (suc k) list = ap (λ m. repeated m list) (let e : suc k + 1 ≡ suc (k + 1) = omega arith in e)
    ∙ (ap (λ l. list ++ l) (repeated_step k list) ∙ sym (append_assoc list (repeated k list) list))

take_none : (m : ℕ) → take {A = ℕ} m [] ≡ []
take_none zero = refl
take_none (suc m) = refl

take_add : (a b : ℕ) (bytes : List ℕ) → take (a + b) bytes ≡ take a bytes ++ take b (drop a bytes)
take_add zero b bytes = ap (λ m. take m bytes) (let e : 0 + b ≡ b = omega arith in e)
take_add (suc a) b [] = take_none (suc a + b) ∙ sym (take_none b)
take_add (suc a) b (x ∷ bytes) = ap (λ m. take m (x ∷ bytes)) (let e : suc a + b ≡ suc (a + b) = omega arith in e)
    ∙ ap (λ l. x ∷ l) (take_add a b bytes)

-- the search over pieces: up to place k all are the list, and the next one is too, or is not
pub next_same : (list bytes : List ℕ) (k at : ℕ) → at ≡ length list → take (k * length list) bytes ≡ repeated k list →
    take at (drop (k * length list) bytes) ≡ list →
    take ((k + 1) * length list) bytes ≡ repeated (k + 1) list
next_same list bytes k at at_is before here =
    ap (λ m. take m bytes)
    (let e : (k + 1) * length list ≡ k * length list + at = omega (arith, at_is, suc-mul k (length list)) in e)
    ∙ (take_add (k * length list) at bytes ∙ (ap₂ (λ a b. a ++ b) before here ∙ sym (repeated_step k list)))

pub one_differs : (list bytes : List ℕ) (k at : ℕ) → at ≡ length list → k < length bytes / length list →
    (take at (drop (k * length list) bytes) ≡ list → ⊥) →
    bytes ≡ repeated (length bytes / length list) list → ⊥
one_differs list bytes k at at_is below differs all =
    differs (ap₂ (λ m l. take m (drop (k * length list) l)) at_is all
    ∙ repeated_piece (length bytes / length list) k list below)

-- the piece at a place is whole
pub piece_long : (n k at : ℕ) (bytes now : List ℕ) → at ≡ n → length now ≡ length bytes → k < length bytes / n →
    length (take at (drop (k * n) now)) ≡ n
piece_long n k at bytes now at_is same below =
    let rows : suc k * n ≤ length bytes / n * n =
    mul-le-mul_right n (let one : suc k ≤ length bytes / n = omega arith in one) in
    length-take-le at (drop (k * n) now)
    (omega (arith, at_is, same, rows, suc-mul k n, whole_pieces n bytes, length-drop (k * n) now)) ∙ at_is
