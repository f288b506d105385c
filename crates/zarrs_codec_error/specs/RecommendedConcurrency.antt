-- How many threads a codec can use well.
use Rattle.std.specs.Prelude.{ℕ, ◌+◌, ◌-◌, ◌^◌, min, max}
use Rattle.std.specs.declared.ops.Bound.{Bound}
use Rattle.std.specs.declared.ops.Bound.TheVariants.{Included, Excluded, Unbounded}
use Rattle.zarrs_codec_error.specs.declared.recommended_concurrency.RecommendedConcurrency.{RecommendedConcurrency}

-- the next number, or the same one where it is the greatest
abbrev pub next_capped : ℕ → ℕ
next_capped n = min (n + 1) (2 ^ 64 - 1)

-- where a range begins
abbrev pub start_of : Bound ℕ → ℕ
start_of (Included n) = n
start_of (Excluded n) = next_capped n
start_of Unbounded = 0

-- where a range ends: the number past its last one
abbrev pub bound_end : Bound ℕ → ℕ
bound_end (Included n) = next_capped n
bound_end (Excluded n) = n
bound_end Unbounded = 2 ^ 64 - 1

-- the concurrency of a range, whose numbers are at least 1
abbrev pub concurrency_of : Bound ℕ → Bound ℕ → RecommendedConcurrency
concurrency_of start end =
    record { minimum = max (start_of start) 1; maximum = max (bound_end end) 1 }
