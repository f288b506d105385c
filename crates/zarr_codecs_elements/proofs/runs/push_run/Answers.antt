use Rattle.std.proofs.Common.{◌+◌, ◌-◌, ◌++◌, ap, ◌∙◌}
use Rattle.std.specs.List.{range_with_len}
use Rattle.zarr_codecs_elements.proofs.RunSteps.{run_more}
use Rattle.zarr_codecs_elements.proofs.runs.push_run.Goals as goal

pub loop-i-preserved : goal.loop-i-preserved
loop-i-preserved c =
    ap (λ items.
    items ++ range_with_len (c.args.from + (c.loop-i.i + 1)) (c.args.run - (c.loop-i.i + 1))) c.in_ok-push.ensures.items
    ∙ run_more c.loop-i.places.items _ c.args.from c.args.run c.loop-i.i c.loop-i-test.true c.loop-i.invariant
