use Rattle.zarrs_codec.proofs.array_partial_decoder.ArrayPartialDecoderTraits.partial_decode_into.Goals as goal

pub returns-in-Fixed-clause-puts : goal.returns-in-Fixed-clause-puts
returns-in-Fixed-clause-puts g c = rw c.in-Fixed.is c.read_into_fixed.ensures.puts

pub returns-in-Optional-clause-puts : goal.returns-in-Optional-clause-puts
returns-in-Optional-clause-puts g c = rw c.in-Optional.is c.read_into_optional.ensures.puts
