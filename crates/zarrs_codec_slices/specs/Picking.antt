-- Elements picked out of lists by their places.
use Rattle.std.specs.Prelude.{ℕ, ◌+◌, ◌-◌, ◌*◌, ◌<◌, ◌==◌, Bool, true, nat_le, nat_lt, ◌&&◌, if◌then◌else◌, List, []}
use Rattle.std.specs.Prelude.{◌∷◌, length, take, drop, map, set, get_or, Option, Some, None}
use Rattle.std.specs.List.{flat_map}
use Rattle.zarr_model.specs.ArrayBytes.{ArrayBytes, fixed_bytes, variable_bytes, optional_bytes, ends_from}

-- each number is below the limit
abbrev pub AllBelow : ℕ → List ℕ → Type 0
AllBelow limit numbers = (k : ℕ) → k < length numbers → get_or numbers k 0 < limit

-- the elements at these places, in their order
abbrev pub picked : {A : Type 0} → A → List ℕ → List A → List A
picked d places list = map (λ place. get_or list place d) places

-- a list with the elements at these places replaced one after another, so that the last one wins
abbrev pub replaced : {A : Type 0} → List ℕ → List A → List A → List A
replaced [] given list = list
replaced (place ∷ places) [] list = list
replaced (place ∷ places) (x ∷ given) list = replaced places given (set list place x)

-- element number i of so many bytes each, and of the bytes between offsets
abbrev pub piece_of : ℕ → List ℕ → ℕ → List ℕ
piece_of n value i = take n (drop (i * n) value)

abbrev pub value_of : List ℕ → List ℕ → ℕ → List ℕ
value_of value offsets i =
    take (get_or offsets (i + 1) 0 - get_or offsets i 0) (drop (get_or offsets i 0) value)

-- the same of two lists, one behind the other, where the first has so many elements
abbrev pub picked_piece : ℕ → ℕ → List ℕ → List ℕ → ℕ → List ℕ
picked_piece n number old new pick =
    if nat_lt pick number then piece_of n old pick else piece_of n new (pick - number)

abbrev pub picked_value : ℕ → List ℕ → List ℕ → List ℕ → List ℕ → ℕ → List ℕ
picked_value number old old_offsets new new_offsets pick =
    if nat_lt pick number then value_of old old_offsets pick
    else value_of new new_offsets (pick - number)

-- no offset falls, and the last one is at most the end
abbrev pub stay_within : ℕ → List ℕ → Bool
stay_within end [] = true
stay_within end (from ∷ []) = nat_le from end
stay_within end (from ∷ to ∷ offsets) = nat_le from to && stay_within end (to ∷ offsets)

abbrev pub are_within : List ℕ → List ℕ → Bool
are_within value offsets = stay_within (length value) offsets

-- the array bytes of the elements that the picks name, out of two of one kind
abbrev pub gathered : ℕ → ℕ → List ℕ → ArrayBytes → ArrayBytes → ArrayBytes
gathered n number picks (fixed_bytes old) (fixed_bytes new) =
    fixed_bytes (flat_map (picked_piece n number old new) picks)
gathered n number picks (variable_bytes old from) (variable_bytes new to) =
    variable_bytes (flat_map (picked_value number old from new to) picks)
    (0 ∷ ends_from 0 (map (picked_value number old from new to) picks))
gathered n number picks (optional_bytes old mask) (optional_bytes new over) =
    optional_bytes (gathered n number picks old new)
    (flat_map (picked_piece 1 number mask over) picks)
gathered n number picks old new = old

-- the last element that was given to a place, or the one from before
abbrev pub last_given : {A : Type 0} → ℕ → List ℕ → List A → A → A
last_given place [] given before = before
last_given place (index ∷ indices) [] before = before
last_given place (index ∷ indices) (x ∷ given) before =
    last_given place indices given (if place == index then x else before)

-- the bytes of an element, 0 where they differ
abbrev pub size_in : Option ℕ → ℕ
size_in None = 0
size_in (Some n) = n
