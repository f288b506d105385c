-- A number is what `parse` reads of a text without a plus or a zero in front, and 0 alone.
use Rattle.std.proofs.Common.{◌≡◌, ◌≢◌, ℕ, zero, suc, ◌^◌, ◌<◌, ◌&&◌, nat_lt, if◌then◌else◌, List, [], ◌∷◌, length}
use Rattle.std.proofs.Common.{get_or, bytes_eq, decimal, Option, Some, None, Result, Ok, Err, refl, sym, ap, ◌∙◌, subst}
use Rattle.std.proofs.Common.{arith}
use Rattle.std.proofs.lemmas.Bool.{and_parts, and_from, lt-ltb, ltb-true, cond-true}
use Rattle.zarr_model.proofs.FailureLaws.{same_bytes, bytes_eq-refl}
use Rattle.zarr_model.proofs.BytesLaws.{when_some}
use Rattle.std.specs.Result.{result_ok, OkIff}
use Rattle.std.specs.Str.Parse.{AllDigits, IsNumeral, digits_value, ParsesUnsigned}
use Rattle.std.specs.Int.{IsInRange}
use Rattle.std.proofs.lemmas.Str.Parse.{IsNumeralModel, numerals_by_value, tells_digits, digit_at}
use Rattle.std.proofs.lemmas.Str.Parse.{without_leading_plus_none}
use Rattle.std.proofs.lemmas.Fmt.{decimal-digits_value, decimal_is_IsNumeral, first_decimal}
use Rattle.zarrs_plugin.specs.Number.{number_of}

-- a number is read from its decimal text, and from no other
pub number_of-decimal : (n : ℕ) → n < 2 ^ 64 → number_of (decimal n) ≡ Some n
number_of-decimal n h =
    let value : digits_value 10 (decimal n) ≡ n = (decimal_is_IsNumeral n h).1 in
    subst (λ m. (if bytes_eq (decimal m) (decimal n) && nat_lt m (2 ^ 64) then Some m else None) ≡ Some n) (sym value)
    (cond-true (bytes_eq (decimal n) (decimal n) && nat_lt n (2 ^ 64)) (Some n) None
    (and_from _ _ (bytes_eq-refl (decimal n)) (lt-ltb n (2 ^ 64) h)))

pub number_of-only : (line : List ℕ) (n : ℕ) → number_of line ≡ Some n → (line ≡ decimal n) × (n < 2 ^ 64)
number_of-only line n e =
    let parts = when_some (bytes_eq (decimal (digits_value 10 line)) line
    && nat_lt (digits_value 10 line) (2 ^ 64)) (digits_value 10 line) n e in
    let tests =
    and_parts (bytes_eq (decimal (digits_value 10 line)) line) (nat_lt (digits_value 10 line) (2 ^ 64)) parts.0 in (
      sym (same_bytes (decimal (digits_value 10 line)) line tests.0) ∙ ap decimal parts.1,
      subst (λ m. m < 2 ^ 64) parts.1 (ltb-true (digits_value 10 line) (2 ^ 64) tests.1),
    )

own : IsNumeralModel (AllDigits 10) (digits_value 10)
own = numerals_by_value (AllDigits 10) tells_digits

-- a text that is no number
no_number : (line : List ℕ) → ((n : ℕ) → n < 2 ^ 64 → line ≡ decimal n → ⊥) → number_of line ≡ None
no_number line h = go (number_of line) refl
  where
    go : (o : Option ℕ) → number_of line ≡ o → o ≡ None
    go None e = refl
    go (Some n) e = let only = number_of-only line n e in absurd (h n only.1 only.0)

pub number_of-plus : (line : List ℕ) → get_or line 0 0 ≡ 43 → None ≡ number_of line
number_of-plus line plus = sym (no_number line (λ n small e.
    let numeral : IsNumeral 10 line = subst (IsNumeral 10) (sym e) (decimal_is_IsNumeral n small).0 in
    let range : IsInRange 48 57 (get_or line 0 0) = digit_at line 0 numeral.1 numeral.0 in
    omega arith))

pub number_of-zero : (line : List ℕ) → get_or line 0 0 ≡ 48 → length line ≡ 1 → Some 0 ≡ number_of line
number_of-zero [] first one = absurd (omega arith)
number_of-zero (c ∷ d ∷ line) first one = absurd (omega arith)
number_of-zero (c ∷ []) first one =
    let digit : decimal 0 ≡ c ∷ [] = decimal-digits_value own (48 ∷ []) (omega arith, tt) (omega arith) (λ e. refl)
    (omega arith) ∙ ap (λ d. d ∷ []) (sym first) in
    sym (ap number_of (sym digit) ∙ number_of-decimal 0 (omega arith))

pub number_of-zeros : (line : List ℕ) → get_or line 0 0 ≡ 48 → ¬ (length line ≡ 1) → None ≡ number_of line
number_of-zeros line first long = sym (no_number line (λ n small e. go n small e))
  where
    go : (n : ℕ) → n < 2 ^ 64 → line ≡ decimal n → ⊥
    go zero small e = long (ap length e
        ∙ ap length (decimal-digits_value own (48 ∷ []) (omega arith, tt) (omega arith) (λ e. refl) (omega arith)))
    go (suc n) small e = let above : 48 < get_or (decimal (suc n)) 0 0 = first_decimal (suc n) (omega arith) small in
        let same : get_or line 0 0 ≡ get_or (decimal (suc n)) 0 0 = ap (λ l. get_or l 0 0) e in omega arith

pub number_of-parse : {E : Type 0} (line : List ℕ) (r : Result ℕ E) → ParsesUnsigned 64 10 line r →
    get_or line 0 0 ≢ 43 → get_or line 0 0 ≢ 48 → result_ok r ≡ number_of line
number_of-parse {E} line r parsed plus first = go r (subst (λ l. OkIff r
    (IsNumeral 10 l × (digits_value 10 l < 2 ^ 64)) (digits_value 10 l)) (without_leading_plus_none line plus) parsed)
  where
    go : (s : Result ℕ E) → OkIff s (IsNumeral 10 line × (digits_value 10 line < 2 ^ 64)) (digits_value 10 line) →
        result_ok s ≡ number_of line
    go (Ok n) h =
        let text : decimal (digits_value 10 line) ≡ line =
        decimal-digits_value own line h.0.0.1 h.0.0.0 (λ e. absurd (first e)) h.0.1 in
        ap Some h.1 ∙ sym (ap number_of (sym text) ∙ number_of-decimal (digits_value 10 line) h.0.1)
    go (Err e) h = sym (no_number line (λ n small is.
        let numeral : IsNumeral 10 (decimal n) × (digits_value 10 (decimal n) ≡ n) = decimal_is_IsNumeral n small in
        h (
          subst (IsNumeral 10) (sym is) numeral.0,
          subst (λ m. m < 2 ^ 64) (sym (ap (digits_value 10) is ∙ numeral.1)) small,
        )))
