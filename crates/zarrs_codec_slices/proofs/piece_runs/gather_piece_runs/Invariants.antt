use Rattle.std.proofs.Common.{◌≡◌, ◌++◌, drop}
use Rattle.std.specs.List.{flat_map}
use Rattle.zarrs_codec_slices.specs.Picking.{picked_piece}
use Rattle.zarrs_codec_slices.specs.PickedRuns.{run_numbers}
use Rattle.zarrs_codec_slices.proofs.piece_runs.gather_piece_runs.Given as goal

abbrev pub invariant-loop-run : goal.invariant-loop-run
invariant-loop-run l =
    l.out.items ++ flat_map (picked_piece l.size l.count l.old l.new) (run_numbers (drop l.run-index l.runs)) ≡
    flat_map (picked_piece l.size l.count l.old l.new) (run_numbers l.runs)
