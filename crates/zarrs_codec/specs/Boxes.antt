-- Boxes of a shape that are asked for.
use Rattle.std.specs.Prelude.{ℕ, ◌==◌, ◌&&◌, not, Bool, true, false, if◌then◌else◌, List, [], ◌∷◌, Option, Some, None}
use Rattle.zarr_model.specs.Region.{Region, ends_within, sizes}

-- two shapes have the same lengths
abbrev pub same_lengths : List ℕ → List ℕ → Bool
same_lengths [] [] = true
same_lengths (n ∷ ns) (m ∷ ms) = (n == m) && same_lengths ns ms
same_lengths ns ms = false

-- a box lies inside a shape, and is not all of it, or is
abbrev pub is_smaller : List ℕ → Region → Bool
is_smaller shape box = ends_within box shape && not (same_lengths (sizes box) shape)

abbrev pub is_all : List ℕ → Option Region → Bool
is_all shape None = false
is_all shape (Some box) = ends_within box shape && same_lengths (sizes box) shape

-- the box that is read by itself, if one is
abbrev pub smaller_box : List ℕ → Option Region → Option Region
smaller_box shape None = None
smaller_box shape (Some box) = if is_smaller shape box then Some box else None
