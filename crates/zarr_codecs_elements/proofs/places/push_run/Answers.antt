use Rattle.std.proofs.Common.{◌+◌, ◌-◌, ◌*◌, ◌++◌, map, ap, ◌∙◌}
use Rattle.std.specs.List.{range_with_len}
use Rattle.zarr_codecs_elements.proofs.LoopLaws.{one_more}
use Rattle.zarr_codecs_elements.proofs.places.push_run.Goals as goal

pub loop-i-preserved : goal.loop-i-preserved
loop-i-preserved c =
    ap (λ items. items ++ map (λ i. c.args.from
    + i * c.args.step) (range_with_len (c.loop-i.i + 1) (c.args.len - (c.loop-i.i + 1)))) c.in_ok-push.ensures.items
    ∙ one_more (λ i. c.args.from + i * c.args.step) c.loop-i.out.items _ c.loop-i.i c.args.len c.loop-i-test.true
    c.loop-i.invariant
