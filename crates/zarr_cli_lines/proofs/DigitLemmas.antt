-- Digits decoded into room for half as many bytes, behind what was there.
use Rattle.std.proofs.Common.{◌≡◌, ℕ, ◌/◌, ◌%◌, ◌==◌, ◌++◌, List, length, Some, None, option_map, Ok, Err, sym, ap}
use Rattle.std.proofs.Common.{◌∙◌, eq-eqb, cond}
use Rattle.std.specs.Result.{result_ok}
use Rattle.std.proofs.lemmas.Bool.{cond-true}
use Rattle.hex.specs.Hex.{decode_of, decode_sized, decode_pairs}
use Rattle.hex.specs.declared.error.FromHexError.{FromHexError}
use Rattle.hex.specs.declared.error.FromHexError.TheVariants.{OddLength, InvalidStringLength}

-- room for half as many bytes fits
decode_sized-half : (digits : List ℕ) (n : ℕ) → n ≡ length digits / 2 → decode_sized digits n ≡ decode_of digits
decode_sized-half digits n half = ap (cond (length digits % 2 == 1) (Err OddLength))
    (cond-true (length digits / 2 == n) (decode_pairs 0 digits) (Err InvalidStringLength)
    (eq-eqb (length digits / 2) n (sym half)))

pub digits_put : (digits before bytes : List ℕ) (n : ℕ) → n ≡ length digits / 2 → decode_sized digits n ≡ Ok bytes →
    Some (before ++ bytes) ≡ option_map (λ bytes. before ++ bytes) (result_ok (decode_of digits))
digits_put digits before bytes n half ok =
    ap (λ r. option_map (λ bytes. before ++ bytes) (result_ok r)) (sym ok ∙ decode_sized-half digits n half)

pub digits_none : (digits before : List ℕ) (error : FromHexError) (n : ℕ) → n ≡ length digits / 2 →
    decode_sized digits n ≡ Err error →
    None ≡ option_map (λ bytes. before ++ bytes) (result_ok (decode_of digits))
digits_none digits before error n half failed =
    ap (λ r. option_map (λ bytes. before ++ bytes) (result_ok r)) (sym failed ∙ decode_sized-half digits n half)
