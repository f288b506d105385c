use Rattle.std.proofs.Common.{rules}
use Rattle.zarr_array_boxes.proofs.PlaceRunLaws.{one_numbered}
use Rattle.zarr_array_boxes.proofs.place_runs.numbered.Goals as goal

pub loop-run-preserved : goal.loop-run-preserved
loop-run-preserved c =
    one_numbered c.args.runs.now c.loop-run.run-index c.loop-run.total c.in-Some.behind c.loop-run.numbered.items
    c.push.new.self.items c.loop-run-test.true (search rules) (search rules) c.loop-run.invariant
