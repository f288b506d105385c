use Rattle.std.proofs.lemmas.List.{take_more}
use Rattle.zarr_array_boxes.proofs.PlaceRunLaws.{one_more_put, nowhere_run}
use Rattle.zarr_array_boxes.proofs.place_runs.put_runs.Goals as goal

pub loop-run-preserved : goal.loop-run-preserved
loop-run-preserved c =
    one_more_put c.args.runs.now c.loop-run.run-index _ c.args.picks.now c.loop-run.picks c.put_run.new.picks
    (take_more c.args.runs.now c.loop-run.run-index nowhere_run c.loop-run-test.true)
    c.put_run.ensures.long c.put_run.ensures.each c.loop-run.invariant
