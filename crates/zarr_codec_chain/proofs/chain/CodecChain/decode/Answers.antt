use Rattle.std.proofs.Common.{inl, subst}
use Rattle.zarr_codec_chain.specs.Prelude.{raw_of, options_of, list_at, Gives, bottom_level, decoded, Level}
use Rattle.zarr_codec_chain.proofs.StepLaws.{top_is}
use Rattle.zarr_codec_chain.proofs.LevelLaws.{some-list}
use Rattle.zarr_codec_chain.proofs.ChainLaws.{decoded-above, ok_of, err_of}
use Rattle.zarr_codec_chain.proofs.chain.CodecChain.decode.Goals as goal

pub returns-clause-value : goal.returns-clause-value
returns-clause-value g c =
    let self = c.args.self.now in
    let levels = c.args.levels.now in
    let same = c.requires.count in
    let under = options_of c.args.options.now in
    let list = g.B.ArrayToBytesCodecTraits in
    let bytes = g.C.BytesToBytesCodecTraits in
    let up = rw (c.deref.ensures.value, c.deref-2.ensures.value) at c.decode_up.ensures.value in
    let (xs, is, next) = some-list g.A.ArrayToArrayCodecTraits.meaning g.A.ArrayCodecTraits.unserved
    (bottom_level levels) (list_at (bottom_level levels) (raw_of c.in_ok-below.below)) _ c.in_ok-below.ensures.value in
    let wanted =
    decoded g.A.ArrayToArrayCodecTraits.meaning list.meaning bytes.meaning self levels under c.args.value.items in
    let first = top_is self.array_codecs.items levels.above.items (bottom_level levels) same in
    ok_of _ _ _ c.decode_up.result (λ v gives. subst (λ (level : Level). Gives (list_at level (raw_of v)) wanted) first
    (decoded-above g.A.ArrayToArrayCodecTraits.meaning g.A.ArrayCodecTraits.unserved list.meaning list.says
    bytes.meaning bytes.says self levels same under c.args.value.items xs _
    c.requires.linked next gives))
    (up (bottom_level levels) xs c.requires.linked is)

pub returns-clause-failed : goal.returns-clause-failed
returns-clause-failed g c =
    let self = c.args.self.now in
    let levels = c.args.levels.now in
    let same = c.requires.count in
    let up = rw (c.deref.ensures.value, c.deref-2.ensures.value) at c.decode_up.ensures.value in
    let (xs, is, next) = some-list g.A.ArrayToArrayCodecTraits.meaning g.A.ArrayCodecTraits.unserved
    (bottom_level levels) (list_at (bottom_level levels) (raw_of c.in_ok-below.below)) _ c.in_ok-below.ensures.value in
    err_of _ _ _ c.decode_up.result (λ e memory. inl memory) (up (bottom_level levels) xs c.requires.linked is)
