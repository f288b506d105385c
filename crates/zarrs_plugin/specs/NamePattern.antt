-- Patterns of names.
use Rattle.std.specs.Prelude.{ℕ, Bool, true, false, ◌==◌, ◌&&◌, ◌||◌, nat_le, List, [], ◌∷◌, map, string_bytes}
use Rattle.std.specs.Str.{bytes_eq}
use Rattle.zarrs_plugin.specs.declared.name_pattern.NamePattern.{NamePattern}
use Rattle.zarrs_plugin.specs.declared.name_pattern.NamePattern.TheVariants.{Exact, LetterDigits}

-- one name, or a letter and one or more digits behind it
pub data Pattern : Type 0 where
  exact : List ℕ → Pattern
  letter_digits : ℕ → Pattern

abbrev pub pattern_of : NamePattern → Pattern
pattern_of (Exact text) = exact (string_bytes text)
pattern_of (LetterDigits letter) = letter_digits letter

abbrev pub patterns_of : List NamePattern → List Pattern
patterns_of ps = map pattern_of ps

abbrev pub are_digits : List ℕ → Bool
are_digits [] = true
are_digits (b ∷ bytes) = (nat_le 48 b && nat_le b 57) && are_digits bytes

abbrev pub matches : Pattern → List ℕ → Bool
matches (exact text) name = bytes_eq text name
matches (letter_digits letter) [] = false
matches (letter_digits letter) (b ∷ []) = false
matches (letter_digits letter) (b ∷ d ∷ digits) = (b == letter) && are_digits (d ∷ digits)

abbrev pub matches_any : List Pattern → List ℕ → Bool
matches_any [] name = false
matches_any (p ∷ ps) name = matches p name || matches_any ps name
