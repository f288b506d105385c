-- Lists of index tuples, and lists of things that are refused one after another.
use Rattle.std.specs.Prelude.{◌≡◌, ◌≢◌, ℕ, Bool, false, List, [], ◌∷◌, length, map}
use Rattle.std.specs.Bool.{MatchBool}
use Rattle.std.specs.List.{list_all}
use Rattle.zarr_model.specs.Region.{Span, whole, contains, linear_index}
use Rattle.zarrs_array_subset.specs.Errors.{no_memory}
use Rattle.zarrs_array_subset.specs.declared.error.IndexerError.{IndexerError}
use Rattle.zarrs_array_subset.specs.declared.error.IndexerError.TheVariants.{OutOfMemory, IncompatibleDimensionality}
use Rattle.zarrs_array_subset.specs.declared.error.IndexerError.TheVariants.{OutOfBounds, IncompatibleLength}

-- each tuple lies in a shape
abbrev pub is_list_inside : List (List ℕ) → List ℕ → Bool
is_list_inside tuples shape = list_all (λ tuple. contains (whole shape) tuple) tuples

-- each tuple is a run of its own
abbrev pub single_runs : List (List ℕ) → List ℕ → List Span
single_runs tuples shape =
    map (λ tuple. record { start = linear_index shape tuple; size = 1 }) tuples

-- the length of the first tuple, 0 where there is none
abbrev pub first_rank : List (List ℕ) → ℕ
first_rank [] = 0
first_rank (tuple ∷ tuples) = length tuple

-- why a tuple is refused for a shape: another rank, or else an index past the shape
abbrev pub RefusesTuple : List ℕ → List ℕ → IndexerError → Type 0
RefusesTuple tuple shape OutOfMemory = Unit {0}
RefusesTuple tuple shape (IncompatibleDimensionality e) =
    (e.got ≡ length tuple) × (e.expected ≡ length shape) × (length tuple ≢ length shape)
RefusesTuple tuple shape (OutOfBounds indices bound) =
    (length tuple ≡ length shape) × (contains (whole shape) tuple ≡ false) × (indices.items ≡ tuple)
    × (bound.items ≡ shape)
RefusesTuple tuple shape (IncompatibleLength got expected) = ⊥

-- why a list is refused: why the first of its items is that doesn't fit, or want of memory
abbrev pub RefusesItems : {X : Type 0} → (X → Bool) → (X → IndexerError → Type 0) → List X
    → IndexerError → Type 0
RefusesItems fits refuses [] e = e ≡ no_memory
RefusesItems fits refuses (x ∷ xs) e =
    MatchBool (fits x) (RefusesItems fits refuses xs e) (refuses x e)

-- why a list of tuples is refused
abbrev pub RefusesList : List (List ℕ) → List ℕ → IndexerError → Type 0
RefusesList tuples shape e =
    RefusesItems (contains (whole shape)) (λ tuple. RefusesTuple tuple shape) tuples e

-- the dimensionality of the first item, 0 where there is none
abbrev pub first_of_items : {X : Type 0} → (X → ℕ) → List X → ℕ
first_of_items rank [] = 0
first_of_items rank (x ∷ xs) = rank x
