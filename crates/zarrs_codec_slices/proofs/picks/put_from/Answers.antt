use Rattle.std.proofs.Common.{arith, sym, ◌∙◌}
use Rattle.std.proofs.lemmas.List.{length-set}
use Rattle.zarrs_codec_slices.proofs.PickLaws.{put_step}
use Rattle.zarrs_codec_slices.proofs.picks.put_from.Goals as goal

pub loop-index-preserved : goal.loop-index-preserved
loop-index-preserved c = (
  omega (arith, c.loop-index.invariant.0),
  length-set _ _ _ ∙ c.loop-index.invariant.1,
  sym (put_step c.args.indices.now c.loop-index.picks c.loop-index.index-index c.loop-index.next c.loop-index-test.true)
      ∙ c.loop-index.invariant.2,
)
