-- Bytes piece by piece.
use Rattle.std.specs.Prelude.{◌≡◌, ◌<◌, ◌==◌, ℕ, zero, suc, ◌/◌, Bool, false, List, [], ◌∷◌, ◌++◌, length, take, drop}
use Rattle.std.specs.Prelude.{reverse, slice_index}

-- a list so many times, one after another
abbrev pub repeated : ℕ → List ℕ → List ℕ
repeated zero list = []
repeated (suc k) list = list ++ repeated k list

-- the first k pieces of n bytes are changed, and what comes after them stays
abbrev pub in_pieces : (List ℕ → List ℕ) → ℕ → ℕ → List ℕ → List ℕ
in_pieces change zero n bytes = bytes
in_pieces change (suc k) n bytes = change (take n bytes) ++ in_pieces change k n (drop n bytes)

-- each whole component of n bytes is reversed, and the rest past the last whole component stays
abbrev pub components_reversed : ℕ → List ℕ → List ℕ
components_reversed n bytes = in_pieces reverse (length bytes / n) n bytes

-- bytes are a list repeated at least once
pub record Repeats (list bytes : List ℕ) : Type 0 where
  pub times : ℕ
  pub once : 0 < times
  pub is : bytes ≡ repeated times list

-- the last byte is 0
abbrev pub ends_in_zero : List ℕ → Bool
ends_in_zero [] = false
ends_in_zero (b ∷ bytes) = slice_index (b ∷ bytes) (length bytes) == 0
