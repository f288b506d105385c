-- What the errors say.
use Rattle.std.specs.Prelude.{◌≡◌, ◌≢◌, ℕ, Bool, false, List, length}
use Rattle.zarr_model.specs.Region.{Region, starts, ends_within}
use Rattle.zarrs_array_subset.specs.Boxes.{ends}
use Rattle.zarrs_array_subset.specs.declared.error.ArraySubsetError.{ArraySubsetError}
use Rattle.zarrs_array_subset.specs.declared.error.ArraySubsetError.TheVariants.{IncompatibleDimensionality}
use Rattle.zarrs_array_subset.specs.declared.error.ArraySubsetError.TheVariants.{IncompatibleStartShape}
use Rattle.zarrs_array_subset.specs.declared.error.ArraySubsetError.TheVariants.{IncompatibleStartEnd}
use Rattle.zarrs_array_subset.specs.declared.error.ArraySubsetError.TheVariants.{IncompatibleOffset, OutOfMemory}
use Rattle.zarrs_array_subset.specs.declared.error.IndexerError.{IndexerError}
use Rattle.zarrs_array_subset.specs.declared.error.IndexerError.TheVariants as index

-- want of memory
abbrev pub out_of_memory : ArraySubsetError
out_of_memory = OutOfMemory

-- want of memory, of an indexer
abbrev pub no_memory : IndexerError
no_memory = index.OutOfMemory

-- another dimensionality than the expected one
abbrev pub other_dimensionality : ℕ → ℕ → IndexerError
other_dimensionality got expected =
    index.IncompatibleDimensionality (record { got = got; expected = expected })

-- why a region isn't cut at an end: another rank
abbrev pub RefusesEnd : Region → List ℕ → ArraySubsetError → Type 0
RefusesEnd region end OutOfMemory = Unit {0}
RefusesEnd region end (IncompatibleStartEnd start bound inclusive) =
    (start.items ≡ starts region) × (bound.items ≡ end) × (inclusive ≡ false)
    × (length region ≢ length end)
RefusesEnd region end (IncompatibleDimensionality got expected) = ⊥
RefusesEnd region end (IncompatibleStartShape start shape) = ⊥
RefusesEnd region end (IncompatibleOffset start offset) = ⊥

-- why an offset is refused, where this test of it fails
abbrev pub RefusesOffset : Bool → Region → List ℕ → ArraySubsetError → Type 0
RefusesOffset fits region offset OutOfMemory = Unit {0}
RefusesOffset fits region offset (IncompatibleOffset start by) =
    (start.items ≡ starts region) × (by.items ≡ offset) × (fits ≡ false)
RefusesOffset fits region offset (IncompatibleDimensionality got expected) = ⊥
RefusesOffset fits region offset (IncompatibleStartShape start shape) = ⊥
RefusesOffset fits region offset (IncompatibleStartEnd start end inclusive) = ⊥

-- why a region is refused for a shape: another rank, or else an end past the shape
abbrev pub RefusesShape : Region → List ℕ → IndexerError → Type 0
RefusesShape region shape index.OutOfMemory = Unit {0}
RefusesShape region shape (index.IncompatibleDimensionality e) =
    (e.got ≡ length region) × (e.expected ≡ length shape) × (length region ≢ length shape)
RefusesShape region shape (index.OutOfBounds indices bound) =
    (length region ≡ length shape) × (ends_within region shape ≡ false)
    × (indices.items ≡ ends region) × (bound.items ≡ shape)
RefusesShape region shape (index.IncompatibleLength got expected) = ⊥
