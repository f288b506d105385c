-- Boxes of one array, written one after the other, and what is put into a target.
use Rattle.std.specs.Prelude.{◌≡◌, ◌<◌, ◌*◌, ℕ, true, false, if◌then◌else◌, List, length, get_or, Some}
use Rattle.zarr_model.specs.Prelude.{Element, Kind, Region, count, count_of, contains, place, tuple_at, whole}
use Rattle.zarr_model.specs.Prelude.{SameArray, written, meaning}
use Rattle.zarr_model.specs.ArrayBytes.{ArrayBytes}
use Rattle.zarrs_array_subset.specs.ArraySubset.{region}
use Rattle.zarrs_codec_array_bytes.specs.Refusals.{fine}
use Rattle.zarrs_codec_slices.specs.Elements.{fixed_elements}
use Rattle.zarrs_codec_slices.specs.Overlap.{Copied}
use Rattle.zarrs_codec_array_bytes_parts.specs.Held.{view_array, box_elements, held_by, IsTargetOf, HaveBytes}
use Rattle.zarrs_codec_array_bytes_parts.specs.Targets.{IsViewWritten, ArePut, target_answer}
use Rattle.zarrs_codec_array_bytes_parts.specs.declared.array_bytes_fixed_disjoint_view.ArrayBytesFixedDisjointView.{
  ArrayBytesFixedDisjointView,
}

-- no tuple is in both
abbrev pub AreDisjoint : Region → Region → Type 0
AreDisjoint first second =
    (tuple : List ℕ) → contains first tuple ≡ true → contains second tuple ≡ false

-- an array took the elements of two boxes, and kept all others
abbrev pub HasBoth : List ℕ → Region → Region → List Element → List Element → List Element
    → List Element → Type 0
HasBoth shape first second given other old new =
    (k : ℕ) (d : Element) → k < count_of shape → get_or new k d ≡
    (if contains first (tuple_at (whole shape) k)
    then get_or given (place first (tuple_at (whole shape) k)) d
    else if contains second (tuple_at (whole shape) k)
    then get_or other (place second (tuple_at (whole shape) k)) d else get_or old k d)

-- boxes side by side leave each other's elements
abbrev pub StandSideBySide : Type 0
StandSideBySide =
    (shape : List ℕ) (first second : Region) (given other old mid new : List Element)
    → AreDisjoint first second → Copied (whole shape) first given old mid
    → Copied (whole shape) second other mid new
    → HasBoth shape first second given other old new

-- the array behind a view whose box was written is the old one with these elements in the box
abbrev pub WritesArray : Type 0
WritesArray = (bytes : List ℕ) (old new : ArrayBytesFixedDisjointView) → IsViewWritten bytes old new
    → SameArray (view_array new)
    (written (region old.part.subset) (fixed_elements old.part.size bytes) (view_array old))

-- and the box has them, if the bytes are as many
abbrev pub HoldsWritten : Type 0
HoldsWritten = (bytes : List ℕ) (old new : ArrayBytesFixedDisjointView) → IsViewWritten bytes old new
    → length bytes ≡ count (region old.part.subset) * old.part.size
    → box_elements new ≡ fixed_elements old.part.size bytes

-- a target that array bytes were put into holds the list that they mean
abbrev pub HoldsMeaning : Type 0
HoldsMeaning = (kind : Kind) (number : ℕ) (bytes : ArrayBytes)
    (olds news : List ArrayBytesFixedDisjointView) (from to : ArrayBytesFixedDisjointView)
    (xs : List Element) → IsTargetOf kind number olds from → meaning kind number bytes ≡ Some xs
    → ArePut bytes olds news from to → held_by news to ≡ xs

-- array bytes that mean a list are taken by a target for it
abbrev pub TakesMeaning : Type 0
TakesMeaning = (kind : Kind) (number : ℕ) (bytes : ArrayBytes)
    (views : List ArrayBytesFixedDisjointView) (inner : ArrayBytesFixedDisjointView)
    (xs : List Element) → IsTargetOf kind number views inner → HaveBytes views inner
    → meaning kind number bytes ≡ Some xs → target_answer bytes views inner ≡ fine
