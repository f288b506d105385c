use Rattle.std.proofs.Common.{◌++◌, ◌-◌, ◌+◌, ap, ◌∙◌}
use Rattle.std.specs.List.{range_with_len}
use Rattle.zarrs_codec_slices.proofs.PickLaws.{place_step}
use Rattle.zarrs_codec_slices.proofs.picks.places.Goals as goal

pub loop-place-preserved : goal.loop-place-preserved
loop-place-preserved c =
    ap (λ items. items
    ++ range_with_len (c.loop-place.place + 1) (c.args.count - (c.loop-place.place + 1))) c.in_ok-push.ensures.items
    ∙ place_step c.loop-place.places.items (range_with_len 0 c.args.count) c.loop-place.place c.args.count
    c.loop-place-test.true c.loop-place.invariant
