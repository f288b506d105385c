use Rattle.std.proofs.Common.{sym, ◌∙◌}
use Rattle.zarrs_codec_array_bytes.specs.Raw.{raw_of}
use Rattle.zarrs_codec_slices.specs.Same.{same_under}
use Rattle.zarrs_codec_slices.proofs.SameLaws.{all_more, all_stop}
use Rattle.zarrs_codec_array_bytes.proofs.array_bytes.equality.are_same_under.Goals as goal

pub returns-then-not-same : goal.returns-then-not-same
returns-then-not-same c =
    sym (c.loop-place.invariant ∙ all_stop (same_under c.args.mask.now (raw_of c.args.a.now) (raw_of c.args.b.now)) _ _
    c.loop-place-test.true (sym c.is_same_under-same.ensures ∙ c.if-not-same.true))

pub loop-place-preserved : goal.loop-place-preserved
loop-place-preserved c =
    c.loop-place.invariant ∙ all_more (same_under c.args.mask.now (raw_of c.args.a.now) (raw_of c.args.b.now)) _ _
    c.loop-place-test.true (sym c.is_same_under-same.ensures ∙ c.if-not-same.false)
