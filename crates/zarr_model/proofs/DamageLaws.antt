-- Damaged values: commands that went through met none.
use Rattle.std.proofs.Common.{◌≡◌, ℕ, zero, suc, ◌+◌, ◌-◌, ◌<◌, ◌≤◌, ◌⊎◌, List, [], ◌∷◌, ◌++◌, length}
use Rattle.std.proofs.Common.{slice_get, Contains, Some, refl, ap, ◌∙◌, arith, inl, inr, ⊎_elim}
use Rattle.std.proofs.lemmas.Option.{slice_get-get_or}

-- an element of a list has a place in it
pub listed_at : {X : Type 0} (xs : List X) (x : X) → Contains xs x → (k : ℕ) × (slice_get xs k ≡ Some x)
listed_at xs x (k, within, is) = (k, slice_get-get_or xs k x within ∙ ap Some is)

pub slice_get-left : {X : Type 0} (xs ys : List X) (m : ℕ) → m < length xs → slice_get (xs ++ ys) m ≡ slice_get xs m
slice_get-left [] ys m below = absurd (omega arith)
slice_get-left (x ∷ xs) ys zero below = refl
slice_get-left (x ∷ xs) ys (suc m) below = slice_get-left xs ys m (omega arith)

pub slice_get-right : {X : Type 0} (xs ys : List X) (m : ℕ) → slice_get (xs ++ ys) (length xs + m) ≡ slice_get ys m
slice_get-right [] ys m = let none : 0 + m ≡ m = omega arith in ap (slice_get ys) none
slice_get-right (x ∷ xs) ys m =
    let one : length (x ∷ xs) + m ≡ suc (length xs + m) = omega arith in
    ap (slice_get (x ∷ (xs ++ ys))) one ∙ slice_get-right xs ys m

pub below_or_past : (m n : ℕ) → (m < n) ⊎ (n ≤ m)
below_or_past m zero = inr (omega arith)
below_or_past zero (suc n) = inl (omega arith)
below_or_past (suc m) (suc n) = ⊎_elim (λ (below : m < n). inl (omega (arith, below)))
    (λ (past : n ≤ m). inr (omega (arith, past))) (below_or_past m n)
