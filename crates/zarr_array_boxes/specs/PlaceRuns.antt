-- Runs of elements that were given to neighbouring places.
use Rattle.std.specs.Prelude.{◌≡◌, ◌^◌, length, ℕ, ◌+◌, ◌-◌, ◌<◌, ◌≤◌, ◌&&◌, Bool, nat_le, nat_lt, if◌then◌else◌, List}
use Rattle.std.specs.Prelude.{[], ◌∷◌, ◌++◌, replicate}
use Rattle.std.specs.List.{range_with_len}
use Rattle.zarrs_codec_slices.specs.Picking.{replaced}
use Rattle.zarrs_codec_slices.specs.PickedRuns.{run_numbers, AreRunsBelow}
use Rattle.zarr_array_boxes.specs.declared.place_runs.GivenRun.{GivenRun}
use Rattle.zarr_array_boxes.specs.declared.place_runs.PlacePicks.{PlacePicks}

-- runs of places, with the numbers of the elements that were given to them one after another
abbrev pub numbered_from : ℕ → List (ℕ × ℕ) → List GivenRun
numbered_from number [] = []
numbered_from number (run ∷ runs) = (record { place = run.0; number = number; len = run.1 })
    ∷ numbered_from (number + run.1) runs

-- whether a run has a place
abbrev pub has_place : ℕ → GivenRun → Bool
has_place place run = nat_le run.place place && nat_lt place (run.place + run.len)

-- the number of the last element that runs give to a place, or the one from before
abbrev pub given_at : ℕ → ℕ → List GivenRun → ℕ
given_at place before [] = before
given_at place before (run ∷ runs) = given_at place
    (if has_place place run then run.number + (place - run.place) else before) runs

-- each run begins behind the one before it, the first one at a place or behind it
abbrev pub AreRising : ℕ → List GivenRun → Type 0
AreRising next [] = Unit {0}
AreRising next (run ∷ runs) = (next ≤ run.place) × AreRising (run.place + run.len) runs

-- the numbers from a place on up to a count, where runs rise: a blank one where none is
abbrev pub numbers_over : ℕ → ℕ → ℕ → List GivenRun → List ℕ
numbers_over blank count next [] = replicate (count - next) blank
numbers_over blank count next (run ∷ runs) = replicate (run.place - next) blank
    ++ (range_with_len run.number run.len ++ numbers_over blank count (run.place + run.len) runs)

-- a run whose places are below a count, and whose numbers are below another
pub record IsGivenWithin (count total : ℕ) (run : GivenRun) : Type 0 where
  pub below : run.place + run.len ≤ count
  pub within : run.number + run.len ≤ total

-- for each place below a count the number of the last element that was given to it, or that of the
-- blank one behind them all
pub record ArePicksOver (count : ℕ) (runs : List (ℕ × ℕ)) (picks : PlacePicks) : Type 0 where
  pub total : picks.total ≡ length (run_numbers runs)
  pub fits : picks.total + 1 < 2 ^ 64
  pub numbers : run_numbers picks.runs.items
      ≡ replaced (run_numbers runs) (range_with_len 0 (length (run_numbers runs)))
      (replicate count (length (run_numbers runs)))
  pub within : AreRunsBelow (picks.total + 1) picks.runs.items
