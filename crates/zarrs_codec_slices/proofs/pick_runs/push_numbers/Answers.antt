use Rattle.std.proofs.Common.{◌++◌, ◌-◌, ◌+◌, ap, ◌∙◌}
use Rattle.std.specs.List.{range_with_len}
use Rattle.zarrs_codec_slices.proofs.PickLaws.{place_step}
use Rattle.zarrs_codec_slices.proofs.pick_runs.push_numbers.Goals as goal

pub loop-number-preserved : goal.loop-number-preserved
loop-number-preserved c =
    ap (λ items. items ++ range_with_len (c.loop-number.number + 1) (c.args.first + c.args.len
    - (c.loop-number.number + 1))) c.in_ok-push.ensures.items
    ∙ place_step c.loop-number.numbers.items (c.args.numbers.now.items ++ range_with_len c.args.first c.args.len)
    c.loop-number.number (c.args.first + c.args.len) c.loop-number-test.true c.loop-number.invariant
