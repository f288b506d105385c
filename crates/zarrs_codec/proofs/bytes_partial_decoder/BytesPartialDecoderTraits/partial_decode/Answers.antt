use Rattle.zarrs_codec_traits.proofs.IntervalLaws.{first_err}
use Rattle.zarrs_codec.proofs.bytes_partial_decoder.BytesPartialDecoderTraits.partial_decode.Goals as goal

pub returns-in-Err-clause-first : goal.returns-in-Err-clause-first
returns-in-Err-clause-first g c = first_err _ _ _ _ _ _ c.in-Err.ensures.first
