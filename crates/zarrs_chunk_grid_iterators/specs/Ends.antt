-- What iterators give from both ends.
use Rattle.std.specs.Prelude.{◌≡◌, List, [], ◌∷◌, ◌++◌, Option, MatchOption}
use Rattle.std.specs.Iterator.{Count, item_count}

-- an item came that R relates to the first of what was left, and the others are left; or None,
-- where nothing was left
abbrev pub TakesFirst : {S A B : Type 0} → (B → A → Type 0) → (S → List B) → S → Option A → S
    → Type 0
TakesFirst {S} {A} {B} R left s r t =
    MatchOption r ((left s ≡ []) × (left t ≡ [])) (λ x. (y : B) × (left s ≡ y ∷ left t) × R y x)

-- the same from the back
abbrev pub TakesLast : {S A B : Type 0} → (B → A → Type 0) → (S → List B) → S → Option A → S
    → Type 0
TakesLast {S} {A} {B} R left s r t =
    MatchOption r ((left s ≡ []) × (left t ≡ []))
    (λ x. (y : B) × (left s ≡ left t ++ y ∷ []) × R y x)

-- any mix of calls from both ends takes items from the ends of what is left, and the iterator tells
-- how many these are
pub record GivesBothEnds {S A B : Type 0} (can can_back : S → Type 0) (remaining : S → Count)
    (front back : S → Option A → S → Type 0) (R : B → A → Type 0) (left : S → List B) : Type 0 where
  pub ready : (s : S) → can s
  pub ready_back : (s : S) → can_back s
  pub counts : (s : S) → remaining s ≡ item_count left s
  pub first : (s t : S) (r : Option A) → front s r t → TakesFirst R left s r t
  pub last : (s t : S) (r : Option A) → back s r t → TakesLast R left s r t
