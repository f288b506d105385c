use Rattle.zarrs_data_type_bytes.proofs.NumberLaws.{next_byte}
use Rattle.zarrs_data_type_bytes.proofs.rounding.write_number.Goals as goal

pub loop-byte-preserved : goal.loop-byte-preserved
loop-byte-preserved c = next_byte c.args.number c.loop-byte.rest c.loop-byte.byte-index c.loop-byte.byte-items
    c.args.bytes.now c.loop-byte.invariant.0 c.loop-byte.invariant.1 c.loop-byte-test.true
