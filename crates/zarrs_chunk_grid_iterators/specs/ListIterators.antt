-- Steps of the iterators over what was gathered.
use Rattle.std.specs.Prelude.{◌≡◌, ℕ, List, map, Option, Some, None, Ok, Result, MatchOption}
use Rattle.std.specs.declared.alloc.AllocError.{AllocError}
use Rattle.std.specs.Vec.Iter.{into_iter_items, into_iter_steps, into_iter_steps_back}
use Rattle.smallvec.specs.SmallVec.{SmallVec}
use Rattle.zarr_model.specs.Region.{Span}
use Rattle.zarrs_chunk_grid_iterators.specs.declared.gathered.GatheredTuples.{GatheredTuples}
use Rattle.zarrs_chunk_grid_iterators.specs.declared.gathered.SingleRuns.{SingleRuns}

-- a tuple comes, or none
abbrev pub tuple_steps : GatheredTuples → Option (Result (SmallVec ℕ) AllocError) → GatheredTuples
    → Type 0
tuple_steps s r t =
    MatchOption r (into_iter_steps s.tuples None t.tuples)
    (λ x. (tuple : SmallVec ℕ) × into_iter_steps s.tuples (Some tuple) t.tuples × (x ≡ Ok tuple))

-- a linear index comes as a run of its own, or none
abbrev pub single_steps : SingleRuns → Option (ℕ × ℕ) → SingleRuns → Type 0
single_steps s r t =
    MatchOption r (into_iter_steps s.indices None t.indices)
    (λ x. (index : ℕ) × into_iter_steps s.indices (Some index) t.indices × (x ≡ (index, 1)))

-- the same from the back
abbrev pub tuple_steps_back : GatheredTuples → Option (Result (SmallVec ℕ) AllocError)
    → GatheredTuples → Type 0
tuple_steps_back s r t =
    MatchOption r (into_iter_steps_back s.tuples None t.tuples)
    (λ x. (tuple : SmallVec ℕ) × into_iter_steps_back s.tuples (Some tuple) t.tuples
    × (x ≡ Ok tuple))

abbrev pub single_steps_back : SingleRuns → Option (ℕ × ℕ) → SingleRuns → Type 0
single_steps_back s r t =
    MatchOption r (into_iter_steps_back s.indices None t.indices)
    (λ x. (index : ℕ) × into_iter_steps_back s.indices (Some index) t.indices × (x ≡ (index, 1)))

-- what is left
abbrev pub gathered_left : GatheredTuples → List (List ℕ)
gathered_left s = map (λ t. t.items) (into_iter_items s.tuples)

abbrev pub singles_left : SingleRuns → List Span
singles_left s = map (λ n. record { start = n; size = 1 }) (into_iter_items s.indices)
