use Rattle.std.proofs.Common.{◌≡◌, ◌++◌, drop}
use Rattle.zarrs_codec_slices.specs.PickedRuns.{run_numbers}
use Rattle.zarrs_codec_slices.proofs.pick_runs.numbers_of.Given as goal

abbrev pub invariant-loop-run : goal.invariant-loop-run
invariant-loop-run l = l.numbers.items ++ run_numbers (drop l.run-index l.runs) ≡ run_numbers l.runs
