use Rattle.zarrs_codec_array_bytes_parts.proofs.copy_fill_value.copy_fill_value_into.Goals as goal

pub returns-in-Fixed-clause-put : goal.returns-in-Fixed-clause-put
returns-in-Fixed-clause-put c = rw c.in-Fixed.is c.fill_fixed.ensures.put

pub returns-in-Fixed-clause-kept : goal.returns-in-Fixed-clause-kept
returns-in-Fixed-clause-kept c = rw c.in-Fixed.is c.fill_fixed.ensures.kept

pub returns-in-Optional-clause-put : goal.returns-in-Optional-clause-put
returns-in-Optional-clause-put c = rw c.in-Optional.is c.fill_optional.ensures.put

pub returns-in-Optional-clause-kept : goal.returns-in-Optional-clause-kept
returns-in-Optional-clause-kept c = rw c.in-Optional.is c.fill_optional.ensures.kept
