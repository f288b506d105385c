use Rattle.std.proofs.Common.{◌∙◌, length, arith}
use Rattle.zarrs_codec_slices.proofs.FillBoxLaws.{more_fits, filled_more}
use Rattle.zarrs_codec_slices.proofs.fill_box.fill_doubling.Goals as goal

pub copy_front-requires-clause-within : goal.copy_front-requires-clause-within
copy_front-requires-clause-within c =
    more_fits c.loop-filled.filled c.min-more.result c.args.num_elements (length c.args.fill.now)
    (length c.loop-filled.target) (omega (arith, c.min-more.ensures)) c.loop-filled.invariant.long

pub loop-filled-preserved : goal.loop-filled-preserved
loop-filled-preserved c = record {
  some = omega (arith, c.loop-filled.invariant.some);
  within = omega (arith, c.min-more.ensures);
  long = c.copy_front.auto.target ∙ c.loop-filled.invariant.long;
  done = filled_more c.args.fill.now c.loop-filled.target c.loop-filled.filled c.min-more.result
      c.loop-filled.invariant.done (omega (arith, c.min-more.ensures)) c.copy_front.new.target c.copy_front.ensures;
}
