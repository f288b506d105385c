use Rattle.std.proofs.Common.{◌∙◌, ap, List, map, take}
use Rattle.std.proofs.lemmas.List.{take_all}
use Rattle.zarr_model.specs.Codec.{decode_bytes}
use Rattle.zarr_codec_chain.proofs.ListSteps.{decode-more, at-next}
use Rattle.zarr_codec_chain.proofs.encode.encode_through.Goals as goal

pub loop-codec-preserved : goal.loop-codec-preserved
loop-codec-preserved g c = λ under.
    let f = λ (x : g.row.C.Denot). g.C.BytesToBytesCodecTraits.meaning x under in
    ap (λ (l : List g.row.C.Denot). decode_bytes (map f l) c.in_ok-encoded.encoded.items)
    (at-next c.args.codecs.now c.loop-codec.codec-index c.codec-item.result c.loop-codec-test.true c.codec-item.is)
    ∙ (decode-more f (take c.loop-codec.codec-index c.args.codecs.now) c.codec-item.result _ _
    (c.in_ok-encoded.ensures under) ∙ c.loop-codec.invariant under)

pub returns : goal.returns
returns g c = λ under.
    rw (take_all c.loop-codec.codec-index c.args.codecs.now c.loop-codec-test.false) at (c.loop-codec.invariant under)
