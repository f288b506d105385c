-- One dimension of a grid of boundaries: lengths of chunks, one after another.
use Rattle.std.specs.Prelude.{◌≡◌, ℕ, suc, ◌+◌, ◌-◌, ◌==◌, ◌<◌, ◌≤◌, Bool, true, false, ◌&&◌, cond, nat_le, nat_lt}
use Rattle.std.specs.Prelude.{List, [], ◌∷◌, length, get_or, take, sum, slice_index}

-- where each of the lengths begins, from a number on
abbrev pub starts_from : ℕ → List ℕ → List ℕ
starts_from a [] = []
starts_from a (n ∷ lengths) = a ∷ starts_from (a + n) lengths

-- positive lengths one after another cut what is left of a dimension: each begins before its end,
-- and the last one reaches it
abbrev pub cuts : ℕ → List ℕ → Bool
cuts left [] = left == 0
cuts left (n ∷ lengths) = (nat_lt 0 left && nat_lt 0 n) && cuts (left - n) lengths

-- how many of the starts an index has reached
abbrev pub reached : ℕ → List ℕ → ℕ
reached index [] = 0
reached index (start ∷ starts) = cond (nat_le start index) 1 0 + reached index starts

-- the chunk that an index is in: the last one that begins there or before
abbrev pub chunk_at : List ℕ → ℕ → ℕ
chunk_at starts index = reached index starts - 1

-- each number is less than those behind it
abbrev pub IsRising : List ℕ → Type 0
IsRising starts = (i j : ℕ) → i < j → j < length starts → get_or starts i 0 < get_or starts j 0

-- lengths that cut each dimension of a shape
abbrev pub are_cut : List ℕ → List (List ℕ) → Bool
are_cut [] [] = true
are_cut (n ∷ shape) (own ∷ lengths) = cuts n own && are_cut shape lengths
are_cut [] (own ∷ lengths) = false
are_cut (n ∷ shape) [] = false

-- positive lengths whose sum reaches a number, and without the last is below it; none for 0
pub record ReachesEnd (n : ℕ) (lengths : List ℕ) : Type 0 where
  pub each : (k : ℕ) → k < length lengths → 0 < slice_index lengths k
  pub reaches : n ≤ sum lengths
  pub needed : (last : ℕ) → suc last ≡ length lengths → sum (take last lengths) < n
