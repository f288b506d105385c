-- Regions of a chunk, taken down the levels and up again.
use Rattle.std.specs.Prelude.{◌≡◌, ℕ, List, [], ◌∷◌, length, Option, Some}
use Rattle.zarrs_codec_traits.specs.Prelude.{ArrayBytes, Region, count_of, Element, Level, ArrayCodec, list_at, at_box}
use Rattle.zarrs_codec_traits.specs.Prelude.{select}
use Rattle.zarr_codec_chain.specs.Levels.{Step, above, top, elements_above}

-- the box below a codec that a region of a shape needs
abbrev pub Boxing : Type 0 → Type 0
Boxing A = A → List ℕ → Region → Region

-- the box below each codec, the first one first
abbrev pub boxes_below : {A : Type 0} → Boxing A → List (Step A) → Region → List Region
boxes_below region_below [] region = []
boxes_below region_below (step ∷ steps) region =
    let box = region_below step.codec (above step).shape region in
    box ∷ boxes_below region_below steps box

-- the last of some items, or another where there is none
abbrev pub last_item : {A : Type 0} → List A → A → A
last_item [] other = other
last_item (item ∷ items) other = last_item items item

-- the box at the bottom
abbrev pub bottom_box : {A : Type 0} → Boxing A → List (Step A) → Region → Region
bottom_box region_below steps region = last_item (boxes_below region_below steps region) region

-- array bytes are the box of what the bottom's elements decode to at the first level, if they do
abbrev pub HoldsBox : {A : Type 0} → (A → ArrayCodec) → List (Step A) → Level
    → Option (List Element) → Region → ArrayBytes → Type 0
HoldsBox meaning steps bottom below box bytes = (xs : List Element)
    → elements_above meaning steps below ≡ Some xs
    → list_at (at_box box (top steps bottom)) bytes
    ≡ Some (select (top steps bottom).shape box xs)

-- a list of elements, if it is there, has one for each place
abbrev pub IsListCounted : Level → Option (List Element) → Type 0
IsListCounted level elements =
    (xs : List Element) → elements ≡ Some xs → length xs ≡ count_of level.shape
