-- Runs of neighbouring elements that are picked together.
use Rattle.std.specs.Prelude.{ℕ, ◌+◌, ◌<◌, ◌≤◌, List, length, get_or}
use Rattle.std.specs.List.{flat_map, range_with_len}

-- the numbers of runs, each a first number and how many
abbrev pub run_numbers : List (ℕ × ℕ) → List ℕ
run_numbers runs = flat_map (λ run. range_with_len run.0 run.1) runs

-- each run lies within so many elements
abbrev pub AreRunsBelow : ℕ → List (ℕ × ℕ) → Type 0
AreRunsBelow number runs =
    (k : ℕ) → k < length runs → (get_or runs k (0, 0)).0 + (get_or runs k (0, 0)).1 ≤ number

-- each run lies within so many elements of a first list, or behind them within the second one
abbrev pub AreRunsOf : ℕ → ℕ → List (ℕ × ℕ) → Type 0
AreRunsOf number more runs = (k : ℕ) → k < length runs
    → ((get_or runs k (0, 0)).0 < number
    → (get_or runs k (0, 0)).0 + (get_or runs k (0, 0)).1 ≤ number)
    × ((get_or runs k (0, 0)).0 + (get_or runs k (0, 0)).1 ≤ number + more)

-- each offset is at most the last one of a run, and none is before its first one
abbrev pub StayBetween : ℕ → ℕ → List ℕ → Type 0
StayBetween first last offsets =
    (k : ℕ) → k < length offsets → (first ≤ get_or offsets k 0) × (get_or offsets k 0 ≤ last)
