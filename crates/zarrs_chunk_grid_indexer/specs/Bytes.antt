-- Runs of elements as ranges of bytes.
use Rattle.std.specs.Prelude.{◌≡◌, ℕ, ◌+◌, ◌-◌, ◌*◌, ◌^◌, ◌≤◌, min, List, Option, Some, None, MatchOption}
use Rattle.std.specs.List.{AllByRecursion}
use Rattle.std.specs.declared.ops.Range.{Range}
use Rattle.zarr_model.specs.Region.{Span}
use Rattle.zarrs_chunk_grid_indexer.specs.declared.indexer.byte_runs.ByteRuns.{ByteRuns}

-- the bytes of an interval of elements of this size
abbrev pub span_byte_range : ℕ → Span → Range ℕ
span_byte_range size span = record { start = span.start * size; end = (span.start + span.size) * size }

-- the same where each number stops at the greatest
abbrev pub capped : ℕ → ℕ
capped n = min n (2 ^ 64 - 1)

abbrev pub range_of : ℕ → ℕ × ℕ → Range ℕ
range_of size run =
    record { start = capped (run.0 * size); end = capped (capped (run.0 + run.1) * size) }

-- each interval ends within this many elements
abbrev pub AllWithin : ℕ → List Span → Type 0
AllWithin count spans = AllByRecursion (λ span. span.start + span.size ≤ count) spans

-- a run of elements comes, or none, and its bytes are the range
abbrev pub byte_steps : {S : Type 0} → (S → Option (ℕ × ℕ) → S → Type 0) → ByteRuns S
    → Option (Range ℕ) → ByteRuns S → Type 0
byte_steps {S} steps s r t =
    (t.element_size ≡ s.element_size)
    × MatchOption r (steps s.runs None t.runs)
    (λ range. (run : ℕ × ℕ) × steps s.runs (Some run) t.runs
    × (range ≡ range_of s.element_size run))
