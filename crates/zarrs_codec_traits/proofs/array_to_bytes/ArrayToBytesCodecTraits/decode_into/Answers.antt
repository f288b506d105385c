use Rattle.zarrs_codec_traits.proofs.array_to_bytes.ArrayToBytesCodecTraits.decode_into.Goals as goal

pub returns-in-Fixed-clause-at : goal.returns-in-Fixed-clause-at
returns-in-Fixed-clause-at g c = rw c.in-Fixed.is c.decode_into_fixed.ensures.at

pub returns-in-Fixed-clause-kept : goal.returns-in-Fixed-clause-kept
returns-in-Fixed-clause-kept g c = rw c.in-Fixed.is c.decode_into_fixed.ensures.kept

pub returns-in-Optional-clause-at : goal.returns-in-Optional-clause-at
returns-in-Optional-clause-at g c = rw c.in-Optional.is c.decode_into_optional.ensures.at

pub returns-in-Optional-clause-kept : goal.returns-in-Optional-clause-kept
returns-in-Optional-clause-kept g c = rw c.in-Optional.is c.decode_into_optional.ensures.kept
