-- The fill value below an offset.
use Rattle.std.proofs.Common.{◌≡◌, ℕ, ◌^◌, ◌==◌, ℤ, true, List, length, Some, None, IsSome, if◌then◌else◌, Bool, false}
use Rattle.std.proofs.Common.{Result, Ok, Err, IfOk, MatchResult, refl, subst, ◌∙◌}
use Rattle.zarr_model.specs.Element.{of_bytes, Kind, fixed, fill_element}
use Rattle.zarr_codecs_elements.specs.Numbers.{bytes_less, raised, TakesOff}
use Rattle.zarr_codecs_elements.proofs.OffsetLaws.{raised-less}

pub raised_fill : (z : ℤ) (amount size : ℕ) (fill made : List ℕ) → TakesOff (256 ^ size) z amount → length fill ≡ size →
    made ≡ raised amount fill → made ≡ bytes_less z fill
raised_fill z amount size fill made takes long is = is ∙ raised-less z amount size fill takes long

-- a fill value that denotes an element of one size has it
pub sized_fill : (kind : Kind) (n : ℕ) (fill : List ℕ) → kind ≡ fixed n → IsSome (fill_element kind fill) →
    (length fill == n) ≡ true
sized_fill kind n fill is there = kept (length fill == n) (subst (λ (k : Kind). IsSome (fill_element k fill)) is there)
  where
    kept : (b : Bool) → IsSome (if b then Some (of_bytes fill) else None) → b ≡ true
    kept true there = refl
    kept false there = cc

-- what is Ok but for an error is so, and has what every Ok has
pub fill_made : {T E : Type 0} (r : Result T E) (P : T → Type 0) (Q : E → Type 0) → MatchResult r (λ _. Unit {0}) Q →
    IfOk r P → MatchResult r P Q
fill_made (Ok v) P Q made has = has
fill_made (Err e) P Q made has = made
