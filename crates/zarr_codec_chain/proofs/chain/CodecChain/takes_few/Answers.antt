use Rattle.std.proofs.Common.{◌≤◌, subst, arith}
use Rattle.zarr_codec_chain.specs.Prelude.{count_of, fill_at, first_level, bottom_level, steps}
use Rattle.zarr_codec_chain.proofs.StepLaws.{top_is}
use Rattle.zarr_codec_chain.proofs.LevelLaws.{fewer_below}
use Rattle.zarr_codec_chain.proofs.chain.CodecChain.takes_few.Goals as goal

pub returns : goal.returns
returns g c = λ few.
    let chain = c.args.self.now in
    let levels = c.args.levels.now in
    let array = g.A.ArrayToArrayCodecTraits in
    let fewer : count_of (bottom_level levels).shape ≤ count_of (first_level levels).shape =
    subst (λ level. count_of (bottom_level levels).shape ≤ count_of level.shape)
    (top_is chain.array_codecs.items levels.above.items (bottom_level levels) c.requires.count)
    (fewer_below array.meaning _ (λ codec level fill served. g.met.A.ArrayToArrayCodecTraits.keeps_count codec level
    fill served) (steps chain levels) (bottom_level levels) c.requires.linked) in
    g.met.B.ArrayToBytesCodecTraits.takes_few chain.to_bytes (bottom_level levels) (fill_at levels.bottom)
    c.requires.served (omega (arith, fewer, few))
