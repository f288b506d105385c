use Rattle.std.proofs.Common.{◌++◌, replicate}
use Rattle.zarr_array_boxes.proofs.PlaceRunLaws.{blanks_step}
use Rattle.zarr_array_boxes.proofs.place_runs.push_blanks.Goals as goal

pub loop-preserved : goal.loop-preserved
loop-preserved c = blanks_step c.args.blank c.loop.picks.items c.push.new.self.items
    (c.args.picks.now.items ++ replicate c.args.len (c.args.blank, 1)) c.args.len c.loop.counter c.loop-test.true
    c.in_ok-push.ensures.items c.loop.invariant
