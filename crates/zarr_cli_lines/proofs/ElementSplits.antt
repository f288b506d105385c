-- The parts of a text between separators.
use Rattle.std.proofs.Common.{◌≡◌, ◌≢◌, ℕ, suc, ◌+◌, Bool, true, false, not, ◌==◌, List, [], ◌∷◌, length, None, refl}
use Rattle.std.proofs.Common.{ap, arith, cond, eqb-true}
use Rattle.std.specs.List.{onto_first, position_or_len}
use Rattle.zarr_cli_lines.specs.ElementText.{split_at, hex_of}

-- a text without the separator is one part
pub split_at-none : (separator : ℕ) (text : List ℕ) → position_or_len (λ b. b == separator) text ≡ length text →
    split_at separator text ≡ text ∷ []
split_at-none separator [] e = refl
split_at-none separator (x ∷ text) e = go (x == separator) (split_at-none separator text) e
  where
    go : (b : Bool) → (position_or_len (λ y. y == separator) text ≡ length text → split_at separator text ≡ text ∷ []) →
        cond (not b) (1 + position_or_len (λ y. y == separator) text) 0 ≡ suc (length text) →
        cond b ([] ∷ split_at separator text) (onto_first x (split_at separator text)) ≡ (x ∷ text) ∷ []
    go true rest h = absurd (omega arith)
    go false rest h = ap (onto_first x) (rest (omega arith))

-- without an `h` in front a text denotes no bytes
pub hex_of-no_h : (text : List ℕ) → ((rest : List ℕ) → text ≢ 104 ∷ rest) → hex_of text ≡ None
hex_of-no_h [] h = refl
hex_of-no_h (b ∷ digits) h = go (b == 104) refl
  where
    go : (t : Bool) → (b == 104) ≡ t → cond t (hex_of (104 ∷ digits)) None ≡ None
    go true e = absurd (h digits (ap (λ c. c ∷ digits) (eqb-true b 104 e)))
    go false e = refl
