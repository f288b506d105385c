-- Which elements of array bytes are selected.
use Rattle.std.specs.Prelude.{ℕ, List, map}
use Rattle.zarr_model.specs.Region.{linear_index}

-- the linear indices of tuples in a shape
abbrev pub linear : List ℕ → List (List ℕ) → List ℕ
linear shape tuples = map (linear_index shape) tuples
