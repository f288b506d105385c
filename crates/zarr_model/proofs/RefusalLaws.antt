-- Tests that refuse, and offsets that rise.
use Rattle.std.proofs.Common.{◌≡◌, ◌≤◌, ◌+◌, ◌==◌, ℕ, suc, nat_le, Bool, true, false, not, List, [], ◌∷◌, length, None}
use Rattle.std.proofs.Common.{refl, arith, eqb-true, eq-eqb}
use Rattle.std.proofs.lemmas.Bool.{and_parts, leb-true}
use Rattle.zarr_model.specs.ArrayBytes.{offsets_rise_to, are_offsets}
use Rattle.zarr_model.specs.Command.{Refusal, refused_if}

-- a test that holds refuses nothing
pub kept : (b : Bool) (why : Refusal) → b ≡ true → refused_if (not b) why ≡ None
kept true why e = refl
kept false why e = cc

-- and one that refuses nothing holds
pub not_refused : (b : Bool) (why : Refusal) → refused_if (not b) why ≡ None → b ≡ true
not_refused true why e = refl
not_refused false why e = cc

-- offsets are one more than the elements
pub offsets_long : (number end : ℕ) (offsets : List ℕ) → are_offsets number end offsets ≡ true →
    (length offsets == number + 1) ≡ true
offsets_long number end [] is = cc
offsets_long number end (first ∷ offsets) is =
    let long : length offsets ≡ number = eqb-true _ _ (and_parts _ _ is).0 in
    eq-eqb _ _ (let all : suc (length offsets) ≡ number + 1 = omega (arith, long) in all)

-- offsets that rise to an end lie within it
pub rise_within : (end from : ℕ) (offsets : List ℕ) → offsets_rise_to end from offsets ≡ true → from ≤ end
rise_within end from [] rises = omega (arith, eqb-true from end rises)
rise_within end from (to ∷ offsets) rises =
    let parts = and_parts (nat_le from to) (offsets_rise_to end to offsets) rises in
    omega (arith, leb-true from to parts.0, rise_within end to offsets parts.1)
