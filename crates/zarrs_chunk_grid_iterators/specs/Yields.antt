-- What an iterator gives to its end.
use Rattle.std.specs.Prelude.{List, [], ◌∷◌, Option, Some, None}

-- every run of calls from s gives an item for each y, in order, with R between the two, and then
-- None
abbrev pub AlwaysGives : {S A B : Type 0} → (S → Option A → S → Type 0) → (B → A → Type 0) → S
    → List B → Type 0
AlwaysGives {S} {A} steps R s [] = (x : A) (j : S) → ¬ (steps s (Some x) j)
AlwaysGives {S} {A} steps R s (y ∷ ys) =
    ((j : S) → ¬ (steps s None j))
    × ((x : A) (j : S) → steps s (Some x) j → R y x × AlwaysGives steps R j ys)
