use Rattle.std.proofs.Common.{◌≡◌, sym, ap, ◌∙◌, ◌+◌, subst, [], ◌∷◌, ◌++◌, take, drop, arith}
use Rattle.std.proofs.lemmas.Grind.{common_steps}
use Rattle.zarr_codec_chain.specs.Levels.{level_at, fill_at, step, steps_of, IsLink}
use Rattle.zarrs_codec_traits.specs.Prelude.{Level, IsFit}
use Rattle.zarr_codec_chain.specs.Building.{levels_unserved}
use Rattle.zarr_codec_chain.proofs.ListSteps.{at-front, at-next}
use Rattle.zarr_codec_chain.proofs.StepLaws.{steps_more, long_more}
use Rattle.zarr_codec_chain.proofs.BuildLaws.{first_more, fill_more, fit_more, linked_more, reason_next}
use Rattle.zarr_codec_chain.proofs.build.levels_down.Goals as goal

pub loop-codec-preserved : goal.loop-codec-preserved
loop-codec-preserved g c =
    let meaning = g.A.ArrayToArrayCodecTraits.meaning in
    let unserved = g.A.ArrayCodecTraits.unserved in
    let fill_below = g.A.ArrayToArrayCodecTraits.fill_below in
    let before = c.loop-codec.invariant in
    let codecs = c.args.codecs.now in
    let n = c.loop-codec.codec-index in
    let codec = c.codec-item.result in
    let levels = c.loop-codec.levels.items in
    let at = c.loop-codec.at in
    let below = c.in_ok-below.below in
    let steps = steps_of (take n codecs) levels in
    let pushed : c.push.new.self.items ≡ levels ++ (at ∷ []) = grind (arith, common_steps) in
    let more : take (n + 1) codecs ≡ take n codecs ++ (codec ∷ []) =
    at-next codecs n codec c.loop-codec-test.true c.codec-item.is in
    let next : drop n codecs ≡ codec ∷ drop (n + 1) codecs =
    at-front codecs n codec c.loop-codec-test.true c.codec-item.is in
    let pairs : steps_of (take (n + 1) codecs) (levels ++ (at ∷ [])) ≡ steps ++ (step codec at ∷ []) =
    ap (λ l. steps_of l (levels ++ (at ∷ []))) more ∙ steps_more (take n codecs) levels codec at before.count in
    let link : IsLink meaning unserved (step codec at) (level_at below) = record {
      served = c.in_ok-below.ensures.exact;
      denotes = before.ready.denotes;
      proper = before.ready.proper;
      below = sym c.in_ok-below.ensures.level;
    } in
    record {
      count = rw (pushed, more) (long_more (take n codecs) levels codec at before.count);
      first = rw pushed (first_more levels at (level_at below) ∙ before.first);
      fill = rw pushed (fill_more levels at (fill_at below) ∙ before.fill);
      fit = rw (pushed, pairs) (fit_more steps (step codec at) before.fit before.ready.fit);
      linked =
          rw (pushed, pairs) (linked_more meaning unserved steps (step codec at) (level_at below) before.linked link);
      ready = c.in_ok-below.ensures.ready;
      reason = λ last. before.reason last ∙ (
          ap (λ l. levels_unserved meaning unserved fill_below last l (level_at at) (fill_at at)) next
          ∙ reason_next meaning unserved fill_below last codec (drop (n + 1) codecs) (level_at at) (level_at below)
          (fill_at at) (fill_at below)
          c.in_ok-below.ensures.exact c.in_ok-below.ensures.level c.in_ok-below.ensures.fill
          );
    }

pub returns-clause-first_fits : goal.returns-clause-first_fits
returns-clause-first_fits g c =
    subst (λ (level : Level). IsFit level.shape level.data_type) (sym c.loop-codec.invariant.first) c.requires.ready.fit
