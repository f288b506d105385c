use Rattle.zarr_array_boxes.proofs.PlaceRunLaws.{HasNumbered}
use Rattle.zarr_array_boxes.proofs.place_runs.numbered.Given as goal

abbrev pub invariant-loop-run : goal.invariant-loop-run
invariant-loop-run l = HasNumbered l.runs l.run-index l.total l.numbered.items
