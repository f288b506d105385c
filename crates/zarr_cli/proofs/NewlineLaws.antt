-- Where the first newline of a text stands.
use Rattle.std.proofs.Common.{◌≡◌, ◌++◌, ◌∷◌, ◌<◌, ◌==◌, Bool, false, ℕ, List, length, get_or, Bor, Option, Some, None}
use Rattle.std.proofs.Common.{IfSome, IfNone, MatchOption, sym, ap, ap₂, ◌∙◌, subst, arith, eqb, eqb-true}
use Rattle.std.specs.List.{position_or_len, before_first, after_first}
use Rattle.std.proofs.lemmas.List.{get_or-take, length-take}
use Rattle.std.proofs.lemmas.List.Elements.{All-from_get_or}
use Rattle.std.proofs.lemmas.List.Sums.{fails_before_first, passes_at_first, split_at_first}
use Rattle.zarr_cli.specs.Steps.{NoNewline}

abbrev is_newline : ℕ → Bool
is_newline b = eqb b 10

pub none_before : (bytes : List ℕ) → NoNewline (before_first is_newline bytes)
none_before bytes = All-from_get_or (λ b. (b == 10) ≡ false) (before_first is_newline bytes) 0
    (λ i within. (let short = length-take (position_or_len is_newline bytes) bytes in
    let below : i < position_or_len is_newline bytes = omega (arith, within, short) in
    ap is_newline (get_or-take (position_or_len is_newline bytes) bytes i 0 below)
    ∙ fails_before_first is_newline bytes i 0 below))

pub none_at_all : (bytes : List ℕ) → position_or_len is_newline bytes ≡ length bytes → NoNewline bytes
none_at_all bytes is = All-from_get_or (λ b. (b == 10) ≡ false) bytes 0
    (λ i within. fails_before_first is_newline bytes i 0 (omega (arith, within, is)))

pub cut_there : (bytes : List ℕ) → position_or_len is_newline bytes < length bytes →
    bytes ≡ before_first is_newline bytes ++ 10 ∷ after_first is_newline bytes
cut_there bytes there = split_at_first is_newline bytes 0 there
    ∙ ap (λ (b : ℕ). before_first is_newline bytes ++ b ∷ after_first is_newline bytes)
    (eqb-true (get_or bytes (position_or_len is_newline bytes) 0) 10 (passes_at_first is_newline bytes 0 there))

-- what splitting at the first newline gives
abbrev Split : List ℕ → Option (Bor (List ℕ) × Bor (List ℕ)) → Type 0
Split bytes result = MatchOption result (position_or_len is_newline bytes ≡ length bytes)
    (λ x. (position_or_len is_newline bytes < length bytes) × (x.0.now ≡ before_first is_newline bytes) ×
    (x.1.now ≡ after_first is_newline bytes))

pub split_some : (bytes : List ℕ) (result : Option (Bor (List ℕ) × Bor (List ℕ))) → Split bytes result →
    IfSome result (λ parts. (bytes ≡ parts.0.now ++ 10 ∷ parts.1.now) × NoNewline parts.0.now)
split_some bytes None is = tt
split_some bytes (Some (line, others)) is = (
  cut_there bytes is.0 ∙ ap₂ (λ (a b : List ℕ). a ++ 10 ∷ b) (sym is.1) (sym is.2),
  subst NoNewline (sym is.1) (none_before bytes),
)

pub split_none : (bytes : List ℕ) (result : Option (Bor (List ℕ) × Bor (List ℕ))) → Split bytes result →
    IfNone result (NoNewline bytes)
split_none bytes None is = none_at_all bytes is
split_none bytes (Some parts) is = tt
