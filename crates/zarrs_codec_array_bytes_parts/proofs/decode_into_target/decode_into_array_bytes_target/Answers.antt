use Rattle.zarrs_codec_array_bytes_parts.proofs.decode_into_target.decode_into_array_bytes_target.Goals as goal

pub returns-in-Fixed-clause-put : goal.returns-in-Fixed-clause-put
returns-in-Fixed-clause-put c = rw c.in-Fixed.is c.decode_into_fixed.ensures.put

pub returns-in-Fixed-clause-kept : goal.returns-in-Fixed-clause-kept
returns-in-Fixed-clause-kept c = rw c.in-Fixed.is c.decode_into_fixed.ensures.kept

pub returns-in-Optional-clause-put : goal.returns-in-Optional-clause-put
returns-in-Optional-clause-put c = rw c.in-Optional.is c.decode_into_optional.ensures.put

pub returns-in-Optional-clause-kept : goal.returns-in-Optional-clause-kept
returns-in-Optional-clause-kept c = rw c.in-Optional.is c.decode_into_optional.ensures.kept
