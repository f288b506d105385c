use Rattle.zarr_array_boxes.proofs.PlaceRunLaws.{HasPutFirst}
use Rattle.zarr_array_boxes.proofs.place_runs.put_runs.Given as goal

abbrev pub invariant-loop-run : goal.invariant-loop-run
invariant-loop-run l = HasPutFirst l.runs l.run-index l.initial.picks l.picks
