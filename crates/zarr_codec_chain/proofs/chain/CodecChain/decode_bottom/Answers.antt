use Rattle.zarrs_codec_traits.specs.Views.{options_of}
use Rattle.zarr_codec_chain.proofs.ChainLaws.{gives_through, fails_through}
use Rattle.zarr_codec_chain.proofs.chain.CodecChain.decode_bottom.Goals as goal

pub returns-clause-value : goal.returns-clause-value
returns-clause-value g c =
    let self = c.args.self.now in
    let list = g.B.ArrayToBytesCodecTraits in
    let bytes = g.C.BytesToBytesCodecTraits in
    let first = rw c.deref.ensures.value at c.in_ok-bytes.ensures.value in
    let answers = (rw c.deref-2.ensures.value at c.decode.ensures.value) c.requires.served in
    gives_through g.A.ArrayToArrayCodecTraits.meaning g.A.ArrayCodecTraits.unserved list.meaning list.says bytes.meaning
    bytes.says self c.args.levels.now c.requires.count (options_of c.args.options.now)
    c.args.value.items c.in_ok-bytes.bytes.items c.decode.result first answers

pub returns-clause-failed : goal.returns-clause-failed
returns-clause-failed g c =
    let self = c.args.self.now in
    let list = g.B.ArrayToBytesCodecTraits in
    let bytes = g.C.BytesToBytesCodecTraits in
    let first = rw c.deref.ensures.value at c.in_ok-bytes.ensures.value in
    let answers = (rw c.deref-2.ensures.value at c.decode.ensures.value) c.requires.served in
    fails_through g.A.ArrayToArrayCodecTraits.meaning g.A.ArrayCodecTraits.unserved list.meaning list.says bytes.meaning
    bytes.says self c.args.levels.now c.requires.count (options_of c.args.options.now)
    c.args.value.items c.in_ok-bytes.bytes.items c.decode.result c.requires.linked first answers
