-- Lists of bytes, changed piece by piece.
use Rattle.std.proofs.Common.{◌≡◌, ℕ, zero, suc, ◌+◌, ◌-◌, ◌*◌, ◌/◌, ◌%◌, ◌^◌, ◌<◌, ◌≤◌, List, [], ◌∷◌, ◌++◌, length}
use Rattle.std.proofs.Common.{take, drop, map, flat_map, refl, sym, ap, ap₂, ◌∙◌, subst, arith}
use Rattle.std.proofs.lemmas.List.{length-append, append_assoc, append-nil, take_at, drop_at, length-take-le}
use Rattle.std.proofs.lemmas.List.{length-drop}
use Rattle.std.proofs.Math.Nat.{add-div_right, div-eq_of_lt, pow-suc, pow-le-pow_right, mod-lt, one-le-pow}
use Rattle.std.proofs.Math.Arith.{mod-mul}
use Rattle.std.proofs.lemmas.Nat.{div-mul-add, mod-mul-add}
use Rattle.zarrs_codec_traits.specs.Prelude.{pieces, number_of_bytes, low_bytes}
use Rattle.zarr_model.proofs.VlenLaws.{length-low_bytes}
use Rattle.zarr_codecs_elements.specs.Numbers.{each_piece, raised}

pub length-raised : (amount : ℕ) (piece : List ℕ) → length (raised amount piece) ≡ length piece
unfolding raised
length-raised amount piece = length-low_bytes (length piece) (number_of_bytes piece + amount)

-- one piece more, and no piece left
each-front : (change : List ℕ → List ℕ) (n : ℕ) (rest : List ℕ) → 0 < n → n ≤ length rest →
    each_piece change n rest ≡ change (take n rest) ++ each_piece change n (drop n rest)
unfolding each_piece
each-front change n rest some fits =
    let back = length (drop n rest) in
    let all : length rest ≡ back + n = omega (arith, length-drop n rest, fits) in
    let one : back / n + 1 ≡ suc (back / n) = omega arith in
    ap (λ (k : ℕ). flat_map change (pieces k n rest)) (ap (λ (m : ℕ). m / n) all ∙ (add-div_right back some ∙ one))

each-short : (change : List ℕ → List ℕ) (n : ℕ) (rest : List ℕ) → length rest < n → each_piece change n rest ≡ []
unfolding each_piece
each-short change n rest short = ap (λ (k : ℕ). flat_map change (pieces k n rest)) (div-eq_of_lt short)

pub raise_step : (amount n : ℕ) (rest out new all : List ℕ) → 0 < n → n ≤ length rest →
    out ++ each_piece (raised amount) n rest ≡ all → new ≡ out ++ raised amount (take n rest) →
    new ++ each_piece (raised amount) n (drop n rest) ≡ all
raise_step amount n rest out new all some fits done made =
    ap (λ (xs : List ℕ). xs ++ each_piece (raised amount) n (drop n rest)) made
    ∙ (append_assoc out (raised amount (take n rest)) (each_piece (raised amount) n (drop n rest))
    ∙ (ap (λ (xs : List ℕ). out ++ xs) (sym (each-front (raised amount) n rest some fits)) ∙ done))

pub raise_end : (amount n : ℕ) (rest out all : List ℕ) → length rest < n →
    out ++ each_piece (raised amount) n rest ≡ all → out ≡ all
raise_end amount n rest out all short done =
    sym (append-nil out) ∙ (ap (λ (xs : List ℕ). out ++ xs) (sym (each-short (raised amount) n rest short)) ∙ done)

-- the pieces of what was changed piece by piece
pub pieces-each : (amount k n : ℕ) (value : List ℕ) → 0 < n → length value ≡ k * n →
    pieces k n (each_piece (raised amount) n value) ≡ map (raised amount) (pieces k n value)
pieces-each amount zero n value some long = refl
pieces-each amount (suc k) n value some long =
    let f = raised amount (take n value) in
    let o = each_piece (raised amount) n (drop n value) in
    let fits : n ≤ length value = omega (arith, long) in
    let as_long : length f ≡ n = length-raised amount (take n value) ∙ length-take-le n value fits in
    let rest : length (drop n value) ≡ k * n = length-drop n value ∙ omega (arith, long) in
    ap (λ (w : List ℕ). take n w ∷ pieces k n (drop n w)) (each-front (raised amount) n value some fits)
    ∙ (ap₂ (λ (x : List ℕ) (y : List ℕ). x ∷ pieces k n y) (take_at f o n as_long) (drop_at f o n as_long)
    ∙ ap (λ (t : List (List ℕ)). f ∷ t) (pieces-each amount k n (drop n value) some rest))

pub length-each : (amount k n : ℕ) (value : List ℕ) → 0 < n → length value ≡ k * n →
    length (each_piece (raised amount) n value) ≡ k * n
unfolding each_piece
length-each amount zero n value some long =
    let none : length value < n = omega (arith, long, some) in
    let zero_is : 0 ≡ 0 * n = omega arith in
    ap length (each-short (raised amount) n value none) ∙ zero_is
length-each amount (suc k) n value some long =
    let f = raised amount (take n value) in
    let o = each_piece (raised amount) n (drop n value) in
    let fits : n ≤ length value = omega (arith, long) in
    let as_long : length f ≡ n = length-raised amount (take n value) ∙ length-take-le n value fits in
    let rest : length (drop n value) ≡ k * n = length-drop n value ∙ omega (arith, long) in
    let later = length-each amount k n (drop n value) some rest in
    ap length (each-front (raised amount) n value some fits) ∙ (length-append f o ∙ omega (arith, as_long, later))

-- only what is below as many digits counts
pub low-mod : (k n : ℕ) → low_bytes k (n % 256 ^ k) ≡ low_bytes k n
low-mod zero n = refl
low-mod (suc k) n =
    let some : 0 < 256 ^ k = one-le-pow k 256 (omega arith) in
    let parts : n % 256 ^ suc k ≡ (n / 256 % 256 ^ k) * 256 + n % 256 =
    ap (λ (m : ℕ). n % m) (pow-suc 256 k) ∙ mod-mul n some (omega arith) in
    let digit : n % 256 < 256 = mod-lt n (omega arith) in
    ap₂ (λ (x : ℕ) (xs : List ℕ). x ∷ xs)
    (ap (λ (m : ℕ). m % 256) parts ∙ mod-mul-add (n / 256 % 256 ^ k) 256 (n % 256) digit)
    (ap (λ (m : ℕ). low_bytes k (m / 256)) parts
    ∙ (ap (low_bytes k) (div-mul-add (n / 256 % 256 ^ k) 256 (n % 256) digit) ∙ low-mod k (n / 256)))

-- one digit more
pub low_step : (n i x : ℕ) → i < n → low_bytes (n - i) x ≡ x % 256 ∷ low_bytes (n - (i + 1)) (x / 256)
low_step n i x more = let next : n - i ≡ suc (n - (i + 1)) = omega (arith, more) in ap (λ (k : ℕ). low_bytes k x) next

pub push_low_step : (n i x : ℕ) (out new all : List ℕ) → i < n → out ++ low_bytes (n - i) x ≡ all →
    new ≡ out ++ (x % 256 ∷ []) → new ++ low_bytes (n - (i + 1)) (x / 256) ≡ all
push_low_step n i x out new all more done made =
    ap (λ (xs : List ℕ). xs ++ low_bytes (n - (i + 1)) (x / 256)) made
    ∙ (append_assoc out (x % 256 ∷ []) (low_bytes (n - (i + 1)) (x / 256))
    ∙ (ap (λ (xs : List ℕ). out ++ xs) (sym (low_step n i x more)) ∙ done))

pub push_low_end : (n i x : ℕ) (out all : List ℕ) → n ≤ i → out ++ low_bytes (n - i) x ≡ all → out ≡ all
push_low_end n i x out all over done =
    let none : n - i ≡ 0 = omega (arith, over) in
    sym (append-nil out) ∙ (ap (λ (k : ℕ). out ++ low_bytes k x) (sym none) ∙ done)

-- numbers of up to 8 bytes
pub few_digits : (r n : ℕ) → n ≤ 8 → r < 256 ^ n → r < 2 ^ 64
few_digits r n few below = let most : 256 ^ n ≤ 256 ^ 8 = pow-le-pow_right (omega arith) few in
    omega (arith, below, most)

-- one byte before others
pub more_digits : (b r n : ℕ) → b < 256 → r < 256 ^ n → b + 256 * r < 256 ^ (n + 1)
more_digits b r n byte below = let one : n + 1 ≡ suc n = omega arith in
    subst (λ (m : ℕ). b + 256 * r < m) (sym (ap (λ (k : ℕ). 256 ^ k) one ∙ pow-suc 256 n)) (omega (arith, below, byte))

pub tail_short : (value : List ℕ) → 1 ≤ length value → length value ≤ 8 →
    length (take (length value - 1) (drop 1 value)) + 1 ≤ 8
tail_short value one few = let rest : length (drop 1 value) ≡ length value - 1 = length-drop 1 value in
    let all : length (take (length value - 1) (drop 1 value)) ≡ length value - 1 =
    length-take-le (length value - 1) (drop 1 value) (omega (arith, rest)) in omega (arith, all, one, few)
