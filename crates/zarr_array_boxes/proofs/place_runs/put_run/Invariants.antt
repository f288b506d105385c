use Rattle.zarr_array_boxes.proofs.PlaceRunLaws.{HasPutSome}
use Rattle.zarr_array_boxes.proofs.place_runs.put_run.Given as goal

abbrev pub invariant-loop-offset : goal.invariant-loop-offset
invariant-loop-offset l = HasPutSome l.run l.offset l.initial.picks l.picks
