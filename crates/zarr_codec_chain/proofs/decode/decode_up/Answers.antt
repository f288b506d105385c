use Rattle.std.proofs.Common.{◌≡◌, ◌-◌, drop, length, is_some, sym, ap, subst, arith, rules}
use Rattle.std.proofs.lemmas.List.{drop_all}
use Rattle.zarr_codec_chain.specs.Prelude.{raw_of, type_of, lengths, IsFit, step, steps_of, above}
use Rattle.zarrs_codec_error.specs.declared.error.CodecError.TheVariants.{OutOfMemory}
use Rattle.zarr_codec_chain.proofs.StepLaws.{as_many, back}
use Rattle.zarr_codec_chain.proofs.LevelLaws.{fit-drop, memory_alone, step-up, step-memory}
use Rattle.zarr_codec_chain.proofs.decode.decode_up.Goals as goal

pub decode-requires : goal.decode-requires
decode-requires g c =
    let steps = steps_of c.args.codecs.now c.args.levels.now in
    let at = c.index-levels-left.result in
    let fits = fit-drop (c.loop-left.left - 1) steps (drop c.loop-left.left steps) (step c.index-codecs-left.result at)
    c.requires.fit (back c.args.codecs.now c.args.levels.now c.loop-left.left c.index-codecs-left.result
    c.index-levels-left.result c.requires.count c.loop-left-test.true c.loop-left.invariant.within
    c.index-codecs-left.is c.index-levels-left.is) in
    record { fits = subst (λ shape. IsFit (lengths shape) (type_of at.data_type)) (sym c.deref.ensures.value) fits }

pub returns-in_err-decoded-clause-value : goal.returns-in_err-decoded-clause-value
returns-in_err-decoded-clause-value g c = λ bottom list links means.
    let code = g.A.ArrayToArrayCodecTraits in
    let steps = steps_of c.args.codecs.now c.args.levels.now in
    let codec = c.index-codecs-left.result in
    let this = step codec c.index-levels-left.result in
    let refused = (rw c.deref.ensures.value at c.in_err-decoded.ensures.at).served in
    let below = (code.meaning codec).level_below (above this) in
    let cause = step-memory code.meaning g.A.ArrayCodecTraits.unserved bottom (c.loop-left.left - 1) c.loop-left.left
    steps this list (raw_of c.loop-left.decoded) (c.in_err-decoded.field-0.0 ≡ OutOfMemory) (back c.args.codecs.now
    c.args.levels.now c.loop-left.left c.index-codecs-left.result c.index-levels-left.result c.requires.count
    c.loop-left-test.true c.loop-left.invariant.within c.index-codecs-left.is c.index-levels-left.is) links
    (c.loop-left.invariant.holds bottom list links means) (λ served mid is.
    memory_alone below (raw_of c.loop-left.decoded) mid c.in_err-decoded.field-0.0 is (refused served).exact) in
    search rules

pub loop-left-init : goal.loop-left-init
loop-left-init g c =
    let steps = steps_of c.args.codecs.now c.args.levels.now in
    record {
      within = omega arith;
      holds = λ bottom list links means. rw (drop_all (length c.args.codecs.now) steps
          (omega (arith, as_many c.args.codecs.now c.args.levels.now c.requires.count)))
          (record { same = means; there = ap is_some means });
      short = λ short. short;
    }

pub loop-left-preserved : goal.loop-left-preserved
loop-left-preserved g c = record {
  within = omega (arith, c.loop-left.invariant.within);
  holds = λ bottom list links means.
      let code = g.A.ArrayToArrayCodecTraits in
      let steps = steps_of c.args.codecs.now c.args.levels.now in
      let this = step c.index-codecs-left.result c.index-levels-left.result in
      let decoded = (rw c.deref.ensures.value at c.in_ok-decoded.ensures.at).served in
      step-up code.meaning g.A.ArrayCodecTraits.unserved bottom (c.loop-left.left - 1) c.loop-left.left steps this list
      (raw_of c.loop-left.decoded) (raw_of c.in_ok-decoded.decoded)
      (back c.args.codecs.now c.args.levels.now c.loop-left.left c.index-codecs-left.result c.index-levels-left.result
      c.requires.count c.loop-left-test.true c.loop-left.invariant.within c.index-codecs-left.is c.index-levels-left.is)
      links (c.loop-left.invariant.holds bottom list links means) (λ served mid is. (decoded served).value mid is);
  short = λ short. c.in_ok-decoded.ensures.short (c.loop-left.invariant.short short);
}

pub returns-clause-value : goal.returns-clause-value
returns-clause-value g c = λ bottom list links means.
    let end : c.loop-left.left ≡ 0 = omega (arith, c.loop-left-test.false) in
    rw end at (c.loop-left.invariant.holds bottom list links means)
