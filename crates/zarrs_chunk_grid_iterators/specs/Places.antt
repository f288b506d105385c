-- What iterators give, place by place.
use Rattle.std.specs.Prelude.{◌≡◌, ℕ, ◌-◌, ◌+◌, ◌*◌, ◌<◌, ◌≤◌, ◌^◌, min, List, [], ◌∷◌, ◌++◌, length, Option, Result}
use Rattle.std.specs.Prelude.{IfOk, IsOk, MatchOption}
use Rattle.std.specs.List.{range_with_len}
use Rattle.std.specs.declared.alloc.AllocError.{AllocError}
use Rattle.std.specs.declared.ops.Bound.{Bound}
use Rattle.std.specs.declared.ops.Bound.TheVariants.{Included, Excluded, Unbounded}
use Rattle.smallvec.specs.SmallVec.{SmallVec}
use Rattle.zarr_model.specs.Region.{Region, tuple_at, linear_index}

-- the places from a up to b
abbrev pub places : ℕ → ℕ → List ℕ
places a b = range_with_len a (b - a)

-- the first place of those from a up to b, and c up to d are left; or none, where none was
abbrev pub TakesPlace : ℕ → ℕ → Option ℕ → ℕ → ℕ → Type 0
TakesPlace a b place c d =
    MatchOption place ((b ≤ a) × (c ≡ a) × (d ≡ b))
    (λ p. (p ≡ a) × (a < b) × (c ≡ a + 1) × (d ≡ b))

-- the same of the last place
abbrev pub TakesPlaceBack : ℕ → ℕ → Option ℕ → ℕ → ℕ → Type 0
TakesPlaceBack a b place c d =
    MatchOption place ((b ≤ a) × (c ≡ a) × (d ≡ b))
    (λ p. (p + 1 ≡ b) × (a < b) × (c ≡ a) × (d + 1 ≡ b))

-- the linear index of the tuple at a place
abbrev pub linear_at : List ℕ → Region → ℕ → ℕ
linear_at shape region place = linear_index shape (tuple_at region place)

-- the linear indices of so many places as are left, from one on, rise by a step after an index
abbrev pub PlacesRise : List ℕ → Region → ℕ → ℕ → ℕ → ℕ → Type 0
PlacesRise shape region place index step left =
    (k : ℕ) → k < left → linear_at shape region (place + k) ≡ index + (k + 1) * step

-- the next number, at most the greatest
abbrev pub next_capped : ℕ → ℕ
next_capped n = min (n + 1) (2 ^ 64 - 1)

-- the first place of a range, which isn't clamped
abbrev pub first_place : Bound ℕ → ℕ
first_place (Included n) = n
first_place (Excluded n) = next_capped n
first_place Unbounded = 0

-- the place past the last one of a range, which is clamped to the number of places
abbrev pub end_place : Bound ℕ → ℕ → ℕ
end_place (Included n) total = min (next_capped n) total
end_place (Excluded n) total = min n total
end_place Unbounded total = total

-- an item is this tuple or want of memory; up to rank 4 it wants none
abbrev pub IsTuple : List ℕ → Result (SmallVec ℕ) AllocError → Type 0
IsTuple tuple item = IfOk item (λ v. v.items ≡ tuple) × (length tuple ≤ 4 → IsOk item)

-- the same of a tuple at which a run begins, and the run's length
abbrev pub IsRun : List ℕ × ℕ → Result (SmallVec ℕ × ℕ) AllocError → Type 0
IsRun run item =
    IfOk item (λ p. (p.0.items ≡ run.0) × (p.1 ≡ run.1)) × (length run.0 ≤ 4 → IsOk item)

-- an item that R relates to the first that was left, or to the last
abbrev pub YieldsOne : {S A B : Type 0} → (B → A → Type 0) → (S → List B) → (S → B) → S → Option A
    → S → Type 0
YieldsOne R left first s r t =
    MatchOption r ((left s ≡ []) × (left t ≡ [])) (λ x. (left s ≡ first s ∷ left t) × R (first s) x)

abbrev pub YieldsOneBack : {S A B : Type 0} → (B → A → Type 0) → (S → List B) → (S → B) → S
    → Option A → S → Type 0
YieldsOneBack R left last s r t =
    MatchOption r ((left s ≡ []) × (left t ≡ []))
    (λ x. (left s ≡ left t ++ last s ∷ []) × R (last s) x)
