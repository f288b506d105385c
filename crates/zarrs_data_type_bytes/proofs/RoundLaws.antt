-- Rounding: what a rounded number is, and that it is not rounded again.
use Rattle.std.proofs.Common.{rules, ◌≡◌, ℕ, zero, suc, ◌+◌, ◌-◌, ◌*◌, ◌/◌, ◌%◌, ◌^◌, ◌<◌, ◌≤◌, min, nat_lt, Bool, true}
use Rattle.std.proofs.Common.{false, if◌then◌else◌, List, [], ◌∷◌, ◌++◌, length, take, drop, refl, sym, ap, ap₂, ◌∙◌}
use Rattle.std.proofs.Common.{subst, arith, ⊎_elim}
use Rattle.std.proofs.lemmas.Bool.{cases_lt, cond-true, cond-false, lt-ltb, ltb-true, false_from_ne_true}
use Rattle.std.proofs.lemmas.Nat.{pow_pos, pow-add, pow_below, leading_length, div-mul-add, div_below, le-div}
use Rattle.std.proofs.lemmas.Nat.{mod_below}
use Rattle.std.proofs.Math.Nat.{pow-le-pow_right, pow-suc, mul_comm, mul_assoc, suc-mul, mul-le-mul_right}
use Rattle.std.proofs.Math.Nat.{div-mul-le_self}
use Rattle.std.specs.Int.{w64, leading_zeros}
use Rattle.std.specs.List.{AllByRecursion}
use Rattle.std.proofs.lemmas.List.{length-take-le, length-drop}
use Rattle.std.proofs.Math.Seq.{take-append_seam, drop-append_seam}
use Rattle.zarr_model.specs.Codec.{number_of_bytes, low_bytes}
use Rattle.zarr_model.proofs.VlenLaws.{number_of_bytes-low_bytes}
use Rattle.zarr_model.proofs.ListLaws.{bytes-take}
use Rattle.zarrs_data_type_bytes.specs.Pieces.{in_pieces}
use Rattle.zarrs_data_type_bytes.specs.Rounding.{binary_digits, without_low, rounded, rounded_bytes, elements_rounded}
use Rattle.zarrs_data_type_bytes.proofs.PieceLaws.{Keeps, length-in_pieces, whole_pieces}

-- a number has m binary digits
pub record HasDigits (m x : ℕ) : Type 0 where
  pub below : x < 2 ^ m
  pub above : 2 ^ m ≤ 2 * x + 1

pub digits-has : (x : ℕ) → x < 2 ^ 64 → HasDigits (binary_digits x) x
digits-has x h = subst (λ m. HasDigits m x) (go.0) go.1
  where
    found : (m : ℕ) × (leading_zeros w64 x + m ≡ 64) × (x < 2 ^ m) × (2 ^ m ≤ 2 * x + 1)
    found = leading_length 64 x h

    go : (found.0 ≡ binary_digits x) × HasDigits found.0 x
    go = (omega (arith, found.1), record { below = found.2; above = found.3 })

not_fewer : (m n x : ℕ) → HasDigits m x → HasDigits n x → m < n → ⊥
not_fewer m n x hm hn h =
    let half : 2 ^ n ≤ 2 * x + 1 = hn.above in
    let more : 2 ^ suc m ≤ 2 ^ n = powers (suc m) n (omega arith) in
    absurd (omega (arith, hm.below, half, more, pow-suc 2 m))
  where
    powers : (i j : ℕ) → i ≤ j → 2 ^ i ≤ 2 ^ j
    powers i j h = ⊎_elim (λ l. omega (arith, pow_below i j l)) (λ (e : j ≤ i). let same : i ≡ j = omega arith in
        let p : 2 ^ i ≡ 2 ^ j = ap (λ n. 2 ^ n) same in omega (arith, p)) (cases_lt i j)

pub digits_are : (m x : ℕ) → x < 2 ^ 64 → HasDigits m x → binary_digits x ≡ m
digits_are m x h has = ⊎_elim
    (λ (l : binary_digits x < m). absurd (not_fewer (binary_digits x) m x (digits-has x h) has l))
    (λ (g : m ≤ binary_digits x). ⊎_elim (λ (l : m < binary_digits x). absurd (not_fewer m (binary_digits x) x has
    (digits-has x h) l)) (λ (e : binary_digits x ≤ m). omega arith) (cases_lt m (binary_digits x)))
    (cases_lt (binary_digits x) m)

-- a power of two is twice the one before it
pub twice : (low : ℕ) → 0 < low → 2 ^ low ≡ 2 * 2 ^ (low - 1)
twice low h = ap (λ n. 2 ^ n) (let e : low ≡ suc (low - 1) = omega arith in e) ∙ (pow-suc 2 (low - 1) ∙ omega arith)

-- between a multiple and the next one
pub cut_to : (q t n : ℕ) → 0 < q → t * q ≤ n → n < t * q + q → n / q * q ≡ t * q
cut_to q t n some from below =
    ap (λ m. m / q * q) (let e : n ≡ t * q + (n - t * q) = omega arith in e)
    ∙ ap (λ m. m * q) (div-mul-add t q (n - t * q) (omega arith))

-- a multiple that is no greater than the greatest stays
pub stays : (low greatest t : ℕ) → 0 < low → t * 2 ^ low ≤ greatest →
    without_low low greatest (t * 2 ^ low) ≡ t * 2 ^ low
stays low greatest t some small =
    let odd : t * 2 ^ low / 2 ^ low % 2 < 2 = mod_below (t * 2 ^ low / 2 ^ low) 2 (omega arith) in
    cut_to (2 ^ low) t (min greatest (t * 2 ^ low + (2 ^ (low - 1) - 1 + t * 2 ^ low / 2 ^ low % 2))) (pow_pos low)
    (omega (arith, small)) (omega (arith, odd, twice low some, pow_pos (low - 1)))

-- the multiple that a number is rounded to
module _ (low keep greatest x : ℕ) (some : 0 < low) (keeps : 0 < keep) (small : x ≤ greatest) (below : x
    < 2 ^ (keep + low)) (above : 2 ^ (keep + low) ≤ 2 * x + 1) where
  abbrev pub multiple : ℕ
  multiple = min greatest (x + (2 ^ (low - 1) - 1 + x / 2 ^ low % 2)) / 2 ^ low

  whole : 2 ^ (keep + low) ≡ 2 ^ keep * 2 ^ low
  whole = pow-add 2 keep low

  pub multiple_least : 2 ^ (keep - 1) ≤ multiple
  multiple_least =
      le-div (2 ^ (keep - 1)) (min greatest (x + (2 ^ (low - 1) - 1 + x / 2 ^ low % 2))) (2 ^ low) (pow_pos low)
      (let half : 2 ^ keep * 2 ^ low ≡ 2 * (2 ^ (keep - 1) * 2 ^ low) =
      ap (λ n. n * 2 ^ low) (twice keep keeps) ∙ assoc (2 ^ (keep - 1)) (2 ^ low) in
      omega (arith, half, whole, above, small))
    where
      assoc : (a b : ℕ) → 2 * a * b ≡ 2 * (a * b)
      assoc a b = search (rules, mul_assoc)

  pub multiple_most : multiple ≤ 2 ^ keep
  multiple_most =
      let odd : x / 2 ^ low % 2 < 2 = mod_below (x / 2 ^ low) 2 (omega arith) in
      let next : suc (2 ^ keep) * 2 ^ low ≡ 2 ^ keep * 2 ^ low + 2 ^ low = suc-mul (2 ^ keep) (2 ^ low) ∙ omega arith in
      let less : multiple < suc (2 ^ keep) =
      div_below (min greatest (x + (2 ^ (low - 1) - 1 + x / 2 ^ low % 2))) (2 ^ low) (suc (2 ^ keep)) (pow_pos low)
      (omega (arith, next, whole, below, odd, twice low some, pow_pos (low - 1))) in
      omega arith

  pub multiple_small : multiple * 2 ^ low ≤ greatest
  multiple_small =
      let cut : multiple * 2 ^ low ≤ min greatest (x + (2 ^ (low - 1) - 1 + x / 2 ^ low % 2)) =
      div-mul-le_self (min greatest (x + (2 ^ (low - 1) - 1 + x / 2 ^ low % 2))) (2 ^ low) in
      omega (arith, cut)

-- what a number is rounded to is not rounded again
pub settles : (keep size x : ℕ) → 0 < keep → size ≤ 8 → x < 256 ^ size →
    rounded keep size (rounded keep size x) ≡ rounded keep size x
settles keep size x keeps few fits = ⊎_elim
    (λ (more : keep < binary_digits x). dropped more)
    (λ (enough : binary_digits x ≤ keep). let as_is : rounded keep size x ≡ x = kept (binary_digits x) enough in
    ap (rounded keep size) as_is)
    (cases_lt keep (binary_digits x))
  where
    greatest : ℕ
    greatest = 256 ^ size - 1

    in_words : 256 ^ size ≤ 2 ^ 64
    in_words = pow_at_most size few
      where
        pow_at_most : (n : ℕ) → n ≤ 8 → 256 ^ n ≤ 2 ^ 64
        pow_at_most n h = pow-le-pow_right {n = 256} (omega arith) {i = n} {j = 8} h

    small : x < 2 ^ 64
    small = omega (arith, fits, in_words)

    kept : (digits : ℕ) → digits ≤ keep →
        (if nat_lt keep digits then without_low (digits - keep) (256 ^ size - 1) x else x) ≡ x
    kept digits h = cond-false (nat_lt keep digits) (without_low (digits - keep) (256 ^ size - 1) x) x
        (false_from_ne_true (nat_lt keep digits)
        (λ l. let less : keep < digits = ltb-true keep digits l in absurd (omega arith)))

    again : (low t : ℕ) → 0 < low → t * 2 ^ low ≤ greatest → binary_digits (t * 2 ^ low) ≡ keep + low →
        rounded keep size (t * 2 ^ low) ≡ t * 2 ^ low
    again low t some within digits =
        ap (λ d. if nat_lt keep d then without_low (d - keep) greatest (t * 2 ^ low) else t * 2 ^ low) digits
        ∙ (cond-true (nat_lt keep (keep + low)) (without_low (keep + low - keep) greatest
        (t * 2 ^ low)) (t * 2 ^ low) (lt-ltb keep (keep + low) (omega arith))
        ∙ (ap (λ d. without_low d greatest (t * 2 ^ low)) (let e : keep + low - keep ≡ low = omega arith in e)
        ∙ stays low greatest t some within))

    dropped : keep < binary_digits x → rounded keep size (rounded keep size x) ≡ rounded keep size x
    dropped more =
        ap (rounded keep size) first ∙ (⊎_elim below_top at_top (cases_lt t (2 ^ keep)) ∙ sym first)
      where
        low : ℕ
        low = binary_digits x - keep

        some : 0 < low
        some = omega (arith, more)

        digits : binary_digits x ≡ keep + low
        digits = omega (arith, more)

        has : HasDigits (keep + low) x
        has = subst (λ m. HasDigits m x) digits (digits-has x small)

        t : ℕ
        t = multiple low keep greatest x some keeps (omega (arith, fits)) has.below has.above

        first : rounded keep size x ≡ t * 2 ^ low
        first = cond-true (nat_lt keep (binary_digits x)) (without_low low greatest x) x
            (lt-ltb keep (binary_digits x) more)

        within : t * 2 ^ low ≤ greatest
        within = multiple_small low keep greatest x some keeps (omega (arith, fits)) has.below has.above

        word : t * 2 ^ low < 2 ^ 64
        word = omega (arith, within, in_words, fits)

        least : 2 ^ (keep - 1) ≤ t
        least = multiple_least low keep greatest x some keeps (omega (arith, fits)) has.below has.above

        most : t ≤ 2 ^ keep
        most = multiple_most low keep greatest x some keeps (omega (arith, fits)) has.below has.above

        assoc : (a b : ℕ) → 2 * a * b ≡ 2 * (a * b)
        assoc a b = mul_assoc 2 a b

        below_top : t < 2 ^ keep → rounded keep size (t * 2 ^ low) ≡ t * 2 ^ low
        below_top less = again low t some within (digits_are (keep + low) (t * 2 ^ low) word (record {
          below = let rows : suc t * 2 ^ low ≤ 2 ^ keep * 2 ^ low =
              mul-le-mul_right (2 ^ low) (let one : suc t ≤ 2 ^ keep = omega arith in one) in
              omega (arith, rows, suc-mul t (2 ^ low), pow-add 2 keep low, pow_pos low);
          above = let rows : 2 ^ (keep - 1) * 2 ^ low ≤ t * 2 ^ low = mul-le-mul_right (2 ^ low) least in
              omega (
                arith,
                rows,
                pow-add 2 keep low,
                ap (λ n. n * 2 ^ low) (twice keep keeps) ∙ assoc (2 ^ (keep - 1)) (2 ^ low),
              );
        }))

        at_top : 2 ^ keep ≤ t → rounded keep size (t * 2 ^ low) ≡ t * 2 ^ low
        at_top high =
            let all : t ≡ 2 ^ keep = omega (arith, most) in
            let top : t * 2 ^ low ≡ 2 ^ (keep - 1) * 2 ^ (low + 1) =
            ap (λ n. n * 2 ^ low) (all ∙ twice keep keeps) ∙ (assoc (2 ^ (keep - 1)) (2 ^ low)
            ∙ (mul_left 2 (2 ^ (keep - 1)) (2 ^ low) ∙ ap (λ n. 2 ^ (keep - 1) * n) (sym (twice (low + 1) (omega arith)
            ∙ ap (λ n. 2 * 2 ^ n) (let e : low + 1 - 1 ≡ low = omega arith in e))))) in
            let power : 2 ^ (keep - 1) * 2 ^ (low + 1) ≡ 2 ^ (keep + low) = sym (pow-add 2 (keep - 1) (low + 1))
            ∙ ap (λ n. 2 ^ n) (let e : keep - 1 + (low + 1) ≡ keep + low = omega arith in e) in
            subst (λ n. rounded keep size n ≡ n) (sym top)
            (again (low + 1) (2 ^ (keep - 1)) (omega arith) (subst (λ n. n ≤ greatest) top within)
            (digits_are (keep + (low + 1)) (2 ^ (keep - 1) * 2 ^ (low + 1)) (subst (λ n. n < 2 ^ 64) top word) (record {
              below = omega (arith, power, pow_below (keep + low) (keep + (low + 1)) (omega arith));
              above = omega (
                arith,
                power,
                ap (λ n. 2 ^ n) (let e : keep + (low + 1) ≡ suc (keep + low) = omega arith in
                    e) ∙ pow-suc 2 (keep + low),
              );
            })))
          where
            mul_left : (a b c : ℕ) → a * (b * c) ≡ b * (a * c)
            mul_left a b c = sym (mul_assoc a b c) ∙ (ap (λ n. n * c) (mul_comm a b) ∙ mul_assoc b a c)

-- the bytes of a piece
pub length-low_bytes : (n x : ℕ) → length (low_bytes n x) ≡ n
length-low_bytes zero x = refl
length-low_bytes (suc n) x = ap suc (length-low_bytes n (x / 256))

pub number_below : (bytes : List ℕ) → AllByRecursion (λ b. b < 256) bytes → number_of_bytes bytes < 256 ^ length bytes
number_below [] all = omega arith
number_below (b ∷ bytes) all = omega (arith, all.0, number_below bytes all.1, pow-suc 256 (length bytes))

rounded_fits : (keep size x : ℕ) → x < 256 ^ size → rounded keep size x < 256 ^ size
rounded_fits keep size x h = go (nat_lt keep (binary_digits x))
  where
    go : (b : Bool) → (if b then without_low (binary_digits x - keep) (256 ^ size - 1) x else x) < 256 ^ size
    go false = h
    go true =
        let low = binary_digits x - keep in
        let cut : without_low low (256 ^ size - 1) x ≤ min (256 ^ size - 1) (x + (2 ^ (low - 1) - 1 + x / 2 ^ low
        % 2)) = div-mul-le_self (min (256 ^ size - 1) (x + (2 ^ (low - 1) - 1 + x / 2 ^ low % 2))) (2 ^ low) in
        omega (arith, cut, h)

pub piece_settles : (keep size : ℕ) (piece : List ℕ) → 0 < keep → size ≤ 8 → length piece ≡ size →
    AllByRecursion (λ b. b < 256) piece →
    rounded_bytes keep size (rounded_bytes keep size piece) ≡ rounded_bytes keep size piece
piece_settles keep size piece keeps few long all =
    let fits : number_of_bytes piece < 256 ^ size =
    subst (λ n. number_of_bytes piece < 256 ^ n) long (number_below piece all) in
    ap (λ n. low_bytes size (rounded keep size n)) (number_of_bytes-low_bytes size
    (rounded keep size (number_of_bytes piece)) (rounded_fits keep size (number_of_bytes piece) fits))
    ∙ ap (low_bytes size) (settles keep size (number_of_bytes piece) keeps few fits)

-- and so in all pieces
bytes_drop : (n : ℕ) (bytes : List ℕ) → AllByRecursion (λ b. b < 256) bytes →
    AllByRecursion (λ b. b < 256) (drop n bytes)
bytes_drop zero bytes all = all
bytes_drop (suc n) [] all = tt
bytes_drop (suc n) (b ∷ bytes) all = bytes_drop n bytes all.1

pub pieces_settle : (keep size k : ℕ) (bytes : List ℕ) → 0 < keep → size ≤ 8 → k * size ≤ length bytes →
    AllByRecursion (λ b. b < 256) bytes →
    in_pieces (rounded_bytes keep size) k size (in_pieces (rounded_bytes keep size) k size bytes) ≡
    in_pieces (rounded_bytes keep size) k size bytes
pieces_settle keep size zero bytes keeps few room all = refl
pieces_settle keep size (suc k) bytes keeps few room all =
    let piece = rounded_bytes keep size (take size bytes) in
    let rest = in_pieces (rounded_bytes keep size) k size (drop size bytes) in
    let long : length piece ≡ size = length-low_bytes size (rounded keep size (number_of_bytes (take size bytes))) in
    ap₂ (λ a b. a ++ b)
    (ap (rounded_bytes keep size) (subst (λ m. take m (piece ++ rest) ≡ piece) long (take-append_seam piece rest))
    ∙ piece_settles keep size (take size bytes) keeps few
    (length-take-le size bytes (omega (arith, room, suc-mul k size))) (bytes-take size bytes all))
    (ap (in_pieces (rounded_bytes keep size) k size)
    (subst (λ m. drop m (piece ++ rest) ≡ rest) long (drop-append_seam piece rest))
    ∙ pieces_settle keep size k (drop size bytes) keeps few
    (omega (arith, room, suc-mul k size, length-drop size bytes)) (bytes_drop size bytes all))

pub rounding_keeps : (keep size : ℕ) → Keeps (rounded_bytes keep size) size
rounding_keeps keep size piece e = length-low_bytes size (rounded keep size (number_of_bytes piece))

pub settled : (keep size : ℕ) (bytes : List ℕ) → 0 < keep → size ≤ 8 → AllByRecursion (λ b. b < 256) bytes →
    elements_rounded keep size (elements_rounded keep size bytes) ≡ elements_rounded keep size bytes
settled keep size bytes keeps few all =
    ap (λ m. in_pieces (rounded_bytes keep size) (m / size) size (elements_rounded keep size bytes))
    (length-in_pieces (rounded_bytes keep size) size (rounding_keeps keep size) (length bytes / size) bytes
    (whole_pieces size bytes))
    ∙ pieces_settle keep size (length bytes / size) bytes keeps few (whole_pieces size bytes) all
