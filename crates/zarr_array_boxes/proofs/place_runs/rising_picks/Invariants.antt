use Rattle.zarr_array_boxes.proofs.PlaceRunLaws.{HasPlaced}
use Rattle.zarr_array_boxes.proofs.place_runs.rising_picks.Given as goal

abbrev pub invariant-loop-run : goal.invariant-loop-run
invariant-loop-run l = HasPlaced l.given.runs.items l.count l.given.total l.run-index l.next l.picks.items
