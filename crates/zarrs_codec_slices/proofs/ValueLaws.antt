-- Elements between offsets.
use Rattle.std.proofs.Common.{◌≡◌, ℕ, zero, suc, ◌+◌, ◌<◌, ◌≤◌, true, nat_le, List, [], ◌∷◌, ◌++◌, length, get_or, map}
use Rattle.std.proofs.Common.{arith, ap, sym, ◌∙◌, subst, subst₂, refl, drop}
use Rattle.std.specs.List.{flat_map}
use Rattle.std.proofs.lemmas.Bool.{and_parts, and_from, le-leb, leb-true, eqb-true}
use Rattle.std.proofs.lemmas.List.{length-append, drop_all, append-nil}
use Rattle.zarr_model.specs.ArrayBytes.{ends_from, offsets_rise_to}
use Rattle.zarrs_codec_slices.specs.Picking.{are_within, stay_within}

stays_rise : (end : ℕ) (offsets : List ℕ) (i : ℕ) → stay_within end offsets ≡ true → i + 1 < length offsets →
    get_or offsets i 0 ≤ get_or offsets (i + 1) 0
stays_rise end [] i h l = absurd (omega arith)
stays_rise end (from ∷ []) i h l = absurd (omega arith)
stays_rise end (from ∷ to ∷ offsets) zero h l =
    leb-true from to (and_parts (nat_le from to) (stay_within end (to ∷ offsets)) h).0
stays_rise end (from ∷ to ∷ offsets) (suc i) h l =
    let e : suc i + 1 ≡ suc (i + 1) = omega arith in
    subst (λ m. get_or (to ∷ offsets) i 0 ≤ get_or (from ∷ to ∷ offsets) m 0) (sym e)
    (stays_rise end (to ∷ offsets) i (and_parts (nat_le from to) (stay_within end (to ∷ offsets)) h).1 (omega arith))

stays_below : (end : ℕ) (offsets : List ℕ) (i : ℕ) → stay_within end offsets ≡ true → i < length offsets →
    get_or offsets i 0 ≤ end
stays_below end [] i h l = absurd (omega arith)
stays_below end (from ∷ []) zero h l = leb-true from end h
stays_below end (from ∷ []) (suc i) h l = absurd (omega arith)
stays_below end (from ∷ to ∷ offsets) zero h l =
    let parts = and_parts (nat_le from to) (stay_within end (to ∷ offsets)) h in
    let low : from ≤ to = leb-true from to parts.0 in
    let high : to ≤ end = stays_below end (to ∷ offsets) zero parts.1 (omega arith) in
    omega (arith, low, high)
stays_below end (from ∷ to ∷ offsets) (suc i) h l =
    stays_below end (to ∷ offsets) i (and_parts (nat_le from to) (stay_within end (to ∷ offsets)) h).1 (omega arith)

pub value_rises : (value offsets : List ℕ) (i : ℕ) → are_within value offsets ≡ true → i + 1 < length offsets →
    get_or offsets i 0 ≤ get_or offsets (i + 1) 0
value_rises value offsets i h l = stays_rise (length value) offsets i h l

pub value_ends : (value offsets : List ℕ) (i : ℕ) → are_within value offsets ≡ true → i < length offsets →
    get_or offsets i 0 ≤ length value
value_ends value offsets i h l = stays_below (length value) offsets i h l

-- the offsets of values one after another stay within their bytes
ends_stay : (end place : ℕ) (values : List (List ℕ)) → end ≡ place + length (flat_map (λ v. v) values) →
    stay_within end (place ∷ ends_from place values) ≡ true
ends_stay end place [] e = le-leb place end (omega (arith, e))
ends_stay end place (value ∷ values) e = and_from (nat_le place (place + length value))
    (stay_within end ((place + length value) ∷ ends_from (place + length value) values))
    (le-leb place (place + length value) (omega arith))
    (ends_stay end (place + length value) values (omega (arith, e, length-append value (flat_map (λ v. v) values))))

pub joined_map : {A : Type 0} (f : A → List ℕ) (xs : List A) → flat_map (λ v. v) (map f xs) ≡ flat_map f xs
joined_map f [] = refl
joined_map f (x ∷ xs) = ap (λ rest. f x ++ rest) (joined_map f xs)

pub gathered_within : {A : Type 0} (f : A → List ℕ) (xs : List A) →
    are_within (flat_map f xs) (0 ∷ ends_from 0 (map f xs)) ≡ true
gathered_within f xs = ends_stay (length (flat_map f xs)) 0 (map f xs) (ap length (sym (joined_map f xs))
    ∙ (let e : length (flat_map (λ v. v) (map f xs)) ≡ 0 + length (flat_map (λ v. v) (map f xs)) = omega arith in e))

pub within_at_end : (f : ℕ → List ℕ) (xs : List ℕ) (i : ℕ) (bytes offsets : List ℕ) → length xs ≤ i →
    bytes ++ flat_map f (drop i xs) ≡ flat_map f xs →
    offsets ++ ends_from (length bytes) (map f (drop i xs)) ≡ 0 ∷ ends_from 0 (map f xs) →
    are_within bytes offsets ≡ true
within_at_end f xs i bytes offsets end e g =
    subst₂ (λ a b. are_within a b ≡ true)
    (sym e ∙ (ap (λ rest. bytes ++ flat_map f rest) (drop_all i xs end) ∙ append-nil bytes))
    (sym g ∙ (ap (λ rest. offsets ++ ends_from (length bytes) (map f rest)) (drop_all i xs end) ∙ append-nil offsets))
    (gathered_within f xs)

-- offsets that rise to the end of their bytes
pub rising_within : (end from : ℕ) (offsets : List ℕ) → offsets_rise_to end from offsets ≡ true →
    stay_within end (from ∷ offsets) ≡ true
rising_within end from [] rises = let same : from ≡ end = eqb-true from end rises in
    le-leb from end (omega (arith, same))
rising_within end from (to ∷ offsets) rises =
    let parts = and_parts (nat_le from to) (offsets_rise_to end to offsets) rises in
    and_from (nat_le from to) (stay_within end (to ∷ offsets)) parts.0 (rising_within end to offsets parts.1)
