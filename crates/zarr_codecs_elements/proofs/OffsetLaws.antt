-- An offset that is put on and taken off again, and numbers raised by it.
use Rattle.std.proofs.Common.{◌≡◌, ℕ, zero, suc, ◌+◌, ◌-◌, ◌*◌, ◌/◌, ◌%◌, ◌^◌, ◌<◌, ◌≤◌, ℤ, pos, negsuc, ◌==◌, List}
use Rattle.std.proofs.Common.{◌∷◌, length, take, drop, map, Some, refl, sym, ap, ap₂, ◌∙◌, subst, arith, eq-eqb}
use Rattle.std.specs.List.{AllByRecursion}
use Rattle.std.proofs.lemmas.Bool.{cond-true, eqb-true}
use Rattle.std.proofs.lemmas.List.{length-take-le, length-drop}
use Rattle.std.proofs.Math.Nat.{mod-lt, div-add-mod, mod-add-mod, add-mul-mod_self_left, mod-eq_of_lt, one-le-pow}
use Rattle.zarrs_codec_traits.specs.Prelude.{Element, of_bytes, fixed, fixed_bytes, meaning, pieces}
use Rattle.zarr_model.specs.Codec.{number_of_bytes, low_bytes, less_offset, element_less, opposite}
use Rattle.zarr_model.proofs.BytesLaws.{when_some}
use Rattle.zarr_model.proofs.VlenLaws.{number_of_bytes-low_bytes, low_bytes-number_of_bytes, length-low_bytes}
use Rattle.zarrs_data_type_bytes.proofs.RoundLaws.{number_below}
use Rattle.zarr_codecs_elements.specs.Numbers.{bytes_less, raised, each_piece, TakesOff}
use Rattle.zarr_codecs_elements.proofs.PieceLaws.{low-mod, pieces-each, length-each}

-- a number, some more, and what is missing to a multiple of m
round : (m d x : ℕ) → 0 < m → x < m → (x + d + (m - d % m)) % m ≡ x
round m d x nonzero below =
    let rest = mod-lt d nonzero in
    let parts = div-add-mod d m in
    let turns : m * (d / m + 1) ≡ m * (d / m) + m = omega arith in
    let all : x + d + (m - d % m) ≡ x + m * (d / m + 1) = omega (arith, rest, parts, turns) in
    ap (λ (n : ℕ). n % m) all ∙ (add-mul-mod_self_left x m (d / m + 1) ∙ mod-eq_of_lt below)

round_back : (m d x : ℕ) → 0 < m → x < m → (x + (m - d % m) + d) % m ≡ x
round_back m d x nonzero below = let turned : x + (m - d % m) + d ≡ x + d + (m - d % m) = omega arith in
    ap (λ (n : ℕ). n % m) turned ∙ round m d x nonzero below

back_of : (m : ℕ) (z : ℤ) (x : ℕ) → 0 < m → x < m → less_offset m z (less_offset m (opposite z) x) ≡ x
back_of m (pos zero) x nonzero below =
    mod-add-mod (x + (m - 0 % m)) m (m - 0 % m) ∙ (let none : 0 % m ≡ 0 = mod-eq_of_lt nonzero in
    let same : x + (m - 0 % m) + (m - 0 % m) ≡ x + m * 2 = omega (arith, none) in
    ap (λ (n : ℕ). n % m) same ∙ (add-mul-mod_self_left x m 2 ∙ mod-eq_of_lt below))
back_of m (pos (suc n)) x nonzero below = mod-add-mod (x + suc n) m (m - suc n % m) ∙ round m (suc n) x nonzero below
back_of m (negsuc n) x nonzero below =
    mod-add-mod (x + (m - suc n % m)) m (suc n) ∙ round_back m (suc n) x nonzero below

pub less_below : (m : ℕ) (z : ℤ) (x : ℕ) → 0 < m → less_offset m z x < m
less_below m (pos d) x nonzero = mod-lt (x + (m - d % m)) nonzero
less_below m (negsuc d) x nonzero = mod-lt (x + suc d) nonzero

-- bytes that the offset was put on, with it taken off again
pub bytes_back : (z : ℤ) (p : List ℕ) → AllByRecursion (λ b. b < 256) p → bytes_less z (bytes_less (opposite z) p) ≡ p
bytes_back z p proper =
    let n = length p in
    let m = 256 ^ n in
    let positive : 0 < m = one-le-pow n 256 (omega arith) in
    let x = number_of_bytes p in
    let y = less_offset m (opposite z) x in
    let long : length (low_bytes n y) ≡ n = length-low_bytes n y in
    let number : number_of_bytes (low_bytes n y) ≡ y =
    number_of_bytes-low_bytes n y (less_below m (opposite z) x positive) in
    ap (λ (k : ℕ). low_bytes k (less_offset (256 ^ k) z (number_of_bytes (low_bytes n y)))) long
    ∙ (ap (λ (k : ℕ). low_bytes n (less_offset m z k)) number
    ∙ (ap (λ (k : ℕ). low_bytes n k) (back_of m z x positive (number_below p proper))
    ∙ low_bytes-number_of_bytes p proper))

-- the lowest bytes of a number are bytes
pub low_proper : (k n : ℕ) → AllByRecursion (λ b. b < 256) (low_bytes k n)
low_proper zero n = tt
low_proper (suc k) n = (mod-lt n (omega arith), low_proper k (n / 256))

pub raised-less : (z : ℤ) (amount n : ℕ) (piece : List ℕ) → TakesOff (256 ^ n) z amount → length piece ≡ n →
    raised amount piece ≡ bytes_less z piece
unfolding raised
raised-less z amount n piece takes long =
    let x = number_of_bytes piece in
    let same : less_offset (256 ^ length piece) z x ≡ (x + amount) % 256 ^ length piece =
    subst (λ (k : ℕ). less_offset (256 ^ k) z x ≡ (x + amount) % 256 ^ k) (sym long) (takes x) in
    sym (ap (λ (k : ℕ). low_bytes (length piece) k) same ∙ low-mod (length piece) (x + amount))

each-less : (z : ℤ) (amount k n : ℕ) (value : List ℕ) → TakesOff (256 ^ n) z amount → length value ≡ k * n →
    map of_bytes (map (raised amount) (pieces k n value)) ≡ map (element_less z) (map of_bytes (pieces k n value))
each-less z amount zero n value takes long = refl
each-less z amount (suc k) n value takes long =
    let fits : n ≤ length value = omega (arith, long) in
    ap₂ (λ (x : Element) (t : List Element).
    x ∷ t) (ap of_bytes (raised-less z amount n (take n value) takes (length-take-le n value fits)))
    (each-less z amount k n (drop n value) takes (length-drop n value ∙ omega (arith, long)))

-- array bytes that were raised piece by piece
pub raised-means : (z : ℤ) (amount number n : ℕ) (value out : List ℕ) (list : List Element) → 0 < n →
    TakesOff (256 ^ n) z amount → out ≡ each_piece (raised amount) n value →
    meaning (fixed n) number (fixed_bytes value) ≡ Some list →
    meaning (fixed n) number (fixed_bytes out) ≡ Some (map (element_less z) list)
raised-means z amount number n value out list nonzero takes made means =
    let parts = when_some (length value == number * n) (map of_bytes (pieces number n value)) list means in
    let long : length value ≡ number * n = eqb-true _ _ parts.0 in
    let as_long : length out ≡ number * n = ap length made ∙ length-each amount number n value nonzero long in
    let elements : map of_bytes (pieces number n out) ≡ map (element_less z) list =
    ap (λ (v : List ℕ). map of_bytes (pieces number n v)) made ∙ (ap (map of_bytes) (pieces-each amount number n value
    nonzero long) ∙ (each-less z amount number n value takes long ∙ ap (map (element_less z)) parts.1)) in
    cond-true _ _ _ (eq-eqb _ _ as_long) ∙ ap Some elements
