use Rattle.std.proofs.Common.{◌∙◌}
use Rattle.zarrs_codec_traits.specs.Views.{options_of}
use Rattle.zarrs_codec_examples.proofs.callers.part_of_absent.Goals as goal

pub returns : goal.returns
returns g c = λ xs served gone fill. c.partial_decode.ensures.reads.selects.value xs served
    (g.met.H.ArrayPartialDecoderTraits.absent c.args.handle.now (options_of c.args.options.now) served gone ∙ fill)
