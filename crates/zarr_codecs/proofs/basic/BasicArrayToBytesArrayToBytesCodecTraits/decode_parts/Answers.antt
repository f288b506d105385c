use Rattle.zarr_codecs.proofs.basic.BasicArrayToBytesArrayToBytesCodecTraits.decode_parts.Goals as goal

pub returns-in-Bytes-clause-at : goal.returns-in-Bytes-clause-at
returns-in-Bytes-clause-at c = rw c.in-Bytes.is c.decode_parts.ensures.at

pub returns-in-Vlen-clause-at : goal.returns-in-Vlen-clause-at
returns-in-Vlen-clause-at c = rw c.in-Vlen.is c.decode_parts-in-Vlen.ensures.at

pub returns-in-Optional-clause-at : goal.returns-in-Optional-clause-at
returns-in-Optional-clause-at c = rw c.in-Optional.is c.decode_parts-in-Optional.ensures.at
