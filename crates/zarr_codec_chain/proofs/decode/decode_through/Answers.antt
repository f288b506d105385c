use Rattle.std.proofs.Common.{◌≡◌, ◌∙◌, ◌<◌, arith, rules, Err, IfErr, subst, sym}
use Rattle.zarr_codec_chain.specs.Prelude.{decode_bytes, IsDecodeError, byte_codecs, bytes_says, options_of}
use Rattle.zarr_codec_chain.proofs.ListSteps.{decode-step, decode-error}
use Rattle.zarr_codec_chain.proofs.decode.decode_through.Goals as goal

pub loop-left-preserved : goal.loop-left-preserved
loop-left-preserved g c =
    let f = λ (x : g.row.C.Denot). g.C.BytesToBytesCodecTraits.meaning x (options_of c.args.options.now) in
    let some : 0 < c.loop-left.left = omega arith in
    record {
      within = omega arith;
      decoded = decode-step f c.args.codecs.now c.loop-left.left c.index-codecs-left.result _ _ some
          c.loop-left.invariant.within c.index-codecs-left.is c.loop-left.invariant.decoded ∙ c.in_ok-opened.ensures;
    }

pub returns-in_err-opened-clause-failed : goal.returns-in_err-opened-clause-failed
returns-in_err-opened-clause-failed g c =
    let under = options_of c.args.options.now in
    let meaning = g.C.BytesToBytesCodecTraits.meaning in
    let says = g.C.BytesToBytesCodecTraits.says in
    let some : 0 < c.loop-left.left = omega arith in
    let cause = decode-error meaning says under c.args.codecs.now c.loop-left.left c.index-codecs-left.result _ _
    c.in_err-opened.field-0.0 some c.loop-left.invariant.within c.index-codecs-left.is c.loop-left.invariant.decoded
    c.in_err-opened.ensures in
    let is : c.from_residual.result ≡ Err c.in_err-opened.field-0.0 = search rules in
    subst (λ r. IfErr r (IsDecodeError (decode_bytes (byte_codecs meaning under c.args.codecs.now) c.args.value.items)
    (bytes_says meaning says under c.args.codecs.now c.args.value.items))) (sym is) cause
