use Rattle.std.proofs.Common.{◌≡◌, ◌+◌, ◌<◌, ℕ, List, [], ◌∷◌, length, None, drop, sym, subst, subst₂, arith, rules}
use Rattle.std.proofs.lemmas.List.{take_all, drop_all, nil_from_length}
use Rattle.zarrs_codec_traits.specs.Prelude.{raw_of, type_of, lengths, IsFit, list_at}
use Rattle.zarrs_codec_traits.proofs.LevelLaws.{valid_memory}
use Rattle.zarr_codec_chain.specs.Levels.{step, steps_of, above, top, SaysInvalid}
use Rattle.zarr_codec_chain.proofs.StepLaws.{as_many, front, next}
use Rattle.zarr_codec_chain.proofs.LevelLaws.{fit-drop, none_invalid, at-start, step-down, down-there}
use Rattle.zarr_codec_chain.proofs.encode.encode_down.Goals as goal

none_below : {X : Type 0} (xs : List X) (i : ℕ) → xs ≡ [] → i < length xs → ⊥
none_below [] i empty below = absurd (omega (arith, below))
none_below (x ∷ xs) i empty below = cc

pub encode-requires : goal.encode-requires
encode-requires g c =
    let steps = steps_of c.args.codecs.now c.args.levels.now in
    let n = c.loop-index.index in
    let this = step c.index-codecs-index.result c.index-levels-index.result in
    let fits = fit-drop n steps (drop (n + 1) steps) this c.requires.fit
    (front c.args.codecs.now c.args.levels.now n c.index-codecs-index.result c.index-levels-index.result
    c.requires.count c.loop-index-test.true c.index-codecs-index.is c.index-levels-index.is) in
    record {
      fits = subst (λ shape. IsFit (lengths shape) (type_of c.index-levels-index.result.data_type))
          (sym c.deref.ensures.value) fits;
    }

pub returns-in_err-encoded-clause-value : goal.returns-in_err-encoded-clause-value
returns-in_err-encoded-clause-value g c = λ bottom list links means.
    let code = g.A.ArrayToArrayCodecTraits in
    let steps = steps_of c.args.codecs.now c.args.levels.now in
    let n = c.loop-index.index in
    let this = step c.index-codecs-index.result c.index-levels-index.result in
    let ready = down-there code.meaning g.A.ArrayCodecTraits.unserved bottom n steps this _ list
    (raw_of c.loop-index.encoded) (front c.args.codecs.now c.args.levels.now n c.index-codecs-index.result
    c.index-levels-index.result c.requires.count c.loop-index-test.true c.index-codecs-index.is c.index-levels-index.is)
    links (c.loop-index.invariant.value bottom list links means) in
    let refused = (rw c.deref.ensures.value at c.in_err-encoded.ensures.at).served in
    let memory = valid_memory (above this) (raw_of c.loop-index.encoded) c.in_err-encoded.field-0.0 ready.1
    (refused ready.0).exact in
    search rules

pub returns-in_err-encoded-clause-refused : goal.returns-in_err-encoded-clause-refused
returns-in_err-encoded-clause-refused g c = λ bottom links none.
    let code = g.A.ArrayToArrayCodecTraits in
    let steps = steps_of c.args.codecs.now c.args.levels.now in
    let n = c.loop-index.index in
    let this = step c.index-codecs-index.result c.index-levels-index.result in
    let start = c.loop-index.invariant.started bottom links none in
    let first = at-start code.meaning g.A.ArrayCodecTraits.unserved bottom n steps _ this start.0
    (front c.args.codecs.now c.args.levels.now n c.index-codecs-index.result c.index-levels-index.result
    c.requires.count c.loop-index-test.true c.index-codecs-index.is c.index-levels-index.is) links in
    let refused = (rw c.deref.ensures.value at c.in_err-encoded.ensures.at).served in
    let told : SaysInvalid (top steps bottom) (raw_of c.args.bytes) c.in_err-encoded.field-0.0 =
    subst₂ (λ level raw. SaysInvalid level raw c.in_err-encoded.field-0.0) (sym first.1) start.1
    (refused first.0).exact in
    search rules

pub loop-index-preserved : goal.loop-index-preserved
loop-index-preserved g c = record {
  value = λ bottom list links means.
      let code = g.A.ArrayToArrayCodecTraits in
      let steps = steps_of c.args.codecs.now c.args.levels.now in
      let n = c.loop-index.index in
      let this = step c.index-codecs-index.result c.index-levels-index.result in
      let more = next c.args.codecs.now c.args.levels.now n c.index-codecs-index.result c.index-levels-index.result
      c.requires.count c.loop-index-test.true c.index-codecs-index.is c.index-levels-index.is in
      let encoded = (rw c.deref.ensures.value at c.in_ok-encoded.ensures.at).served in
      step-down code.meaning g.A.ArrayCodecTraits.unserved bottom n (n + 1) steps this list
      (raw_of c.loop-index.encoded) (raw_of c.in_ok-encoded.encoded)
      (front c.args.codecs.now c.args.levels.now n c.index-codecs-index.result c.index-levels-index.result
      c.requires.count c.loop-index-test.true c.index-codecs-index.is c.index-levels-index.is) more links
      (c.loop-index.invariant.value bottom list links means) (λ served there. (encoded served).value);
  started = λ bottom links none.
      let code = g.A.ArrayToArrayCodecTraits in
      let steps = steps_of c.args.codecs.now c.args.levels.now in
      let n = c.loop-index.index in
      let this = step c.index-codecs-index.result c.index-levels-index.result in
      let start = c.loop-index.invariant.started bottom links none in
      let first = at-start code.meaning g.A.ArrayCodecTraits.unserved bottom n steps _ this start.0
      (front c.args.codecs.now c.args.levels.now n c.index-codecs-index.result c.index-levels-index.result
      c.requires.count c.loop-index-test.true c.index-codecs-index.is c.index-levels-index.is) links in
      let fine_here = ((rw c.deref.ensures.value at c.in_ok-encoded.ensures.at).served first.0).exact in
      let none_here : list_at (above this) (raw_of c.loop-index.encoded) ≡ None =
      subst₂ (λ level raw. list_at level raw ≡ None) first.1 (sym start.1) none in
      absurd (none_invalid (above this) (raw_of c.loop-index.encoded) none_here fine_here);
  none = λ empty. absurd (none_below c.args.codecs.now c.loop-index.index empty c.loop-index-test.true);
  short = λ short. c.in_ok-encoded.ensures.short (c.loop-index.invariant.short short);
}

pub returns-clause-value : goal.returns-clause-value
returns-clause-value g c = λ bottom list links means.
    let steps = steps_of c.args.codecs.now c.args.levels.now in
    let as_long = as_many c.args.codecs.now c.args.levels.now c.requires.count in
    rw (
      take_all c.loop-index.index steps (omega (arith, as_long, c.loop-index-test.false)),
      drop_all c.loop-index.index
          steps (omega (arith, as_long, c.loop-index-test.false)),
    ) at (c.loop-index.invariant.value bottom list links means)

pub returns-clause-refused : goal.returns-clause-refused
returns-clause-refused g c = λ bottom links none.
    let start = c.loop-index.invariant.started bottom links none in
    (nil_from_length c.args.codecs.now (omega (arith, start.0, c.loop-index-test.false)), start.1)
