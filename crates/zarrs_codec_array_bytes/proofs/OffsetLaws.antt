-- Offsets of variable-length elements.
use Rattle.std.proofs.Common.{◌≡◌, ℕ, suc, ◌-◌, ◌<◌, ◌≤◌, Bool, true, false, nat_le, List, [], ◌∷◌, length, get_or}
use Rattle.std.proofs.Common.{None, arith, ap, sym, refl, subst}
use Rattle.std.proofs.lemmas.Bool.{and_parts, and_from, le-leb, leb-true}
use Rattle.zarrs_codec_slices.specs.Picking.{stay_within, are_within}
use Rattle.zarrs_codec_array_bytes.specs.Offsets.{rises_from, never_falls, offsets_error, last_of}

pub some_offset : (numbers : List ℕ) → offsets_error numbers ≡ None → 0 < length numbers
some_offset [] e = cc
some_offset (first ∷ numbers) e = omega arith

pub rising_offsets : (numbers : List ℕ) → offsets_error numbers ≡ None → never_falls numbers ≡ true
rising_offsets [] e = cc
rising_offsets (first ∷ numbers) e = go (rises_from first numbers) refl e
  where
    go : (b : Bool) → rises_from first numbers ≡ b → offsets_error (first ∷ numbers) ≡ None →
        rises_from first numbers ≡ true
    go true is e = is
    go false is e = cc

last_behind : (from to : ℕ) (numbers : List ℕ) → last_of (from ∷ to ∷ numbers) ≡ last_of (to ∷ numbers)
last_behind from to numbers = ap (λ i. get_or (from ∷ to ∷ numbers) i 0)
    (let e : length (from ∷ to ∷ numbers) - 1 ≡ suc (length (to ∷ numbers) - 1) = omega arith in e)

pub offsets_stay : (value offsets : List ℕ) → never_falls offsets ≡ true → last_of offsets ≤ length value →
    are_within value offsets ≡ true
offsets_stay value [] e h = refl
offsets_stay value (from ∷ []) e h = le-leb from (length value) h
offsets_stay value (from ∷ to ∷ offsets) e h =
    let parts = and_parts (nat_le from to) (rises_from to offsets) e in
    and_from (nat_le from to) (stay_within (length value) (to ∷ offsets)) parts.0
    (offsets_stay value (to ∷ offsets) parts.1 (subst (λ m. m ≤ length value) (last_behind from to offsets) h))

pub offsets_rise : (value offsets : List ℕ) → are_within value offsets ≡ true → never_falls offsets ≡ true
offsets_rise value [] e = refl
offsets_rise value (from ∷ []) e = refl
offsets_rise value (from ∷ to ∷ offsets) e =
    let parts = and_parts (nat_le from to) (stay_within (length value) (to ∷ offsets)) e in
    and_from (nat_le from to) (rises_from to offsets) parts.0 (offsets_rise value (to ∷ offsets) parts.1)

pub offsets_end : (value offsets : List ℕ) → are_within value offsets ≡ true → 0 < length offsets →
    last_of offsets ≤ length value
offsets_end value [] e h = absurd (omega (arith, h))
offsets_end value (from ∷ []) e h = leb-true from (length value) e
offsets_end value (from ∷ to ∷ offsets) e h =
    subst (λ m. m ≤ length value) (sym (last_behind from to offsets))
    (offsets_end value (to ∷ offsets) (and_parts (nat_le from to) (stay_within (length value) (to ∷ offsets)) e).1
    (omega arith))
