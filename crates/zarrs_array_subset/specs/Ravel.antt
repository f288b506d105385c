-- Linear indices of lists that may differ in rank: as far as both go.
use Rattle.std.specs.Prelude.{ℕ, ◌+◌, ◌*◌, ◌&&◌, Bool, true, nat_lt, if◌then◌else◌, List, ◌∷◌, Option, Some, None}

abbrev pub count_front : List ℕ → List ℕ → ℕ
count_front (n ∷ shape) (i ∷ indices) = n * count_front shape indices
count_front _ _ = 1

abbrev pub place_front : List ℕ → List ℕ → ℕ
place_front (n ∷ shape) (i ∷ indices) = i * count_front shape indices + place_front shape indices
place_front _ _ = 0

abbrev pub is_below : List ℕ → List ℕ → Bool
is_below (n ∷ shape) (i ∷ indices) = nat_lt i n && is_below shape indices
is_below _ _ = true

abbrev pub raveled : List ℕ → List ℕ → Option ℕ
raveled shape indices = if is_below shape indices then Some (place_front shape indices) else None
