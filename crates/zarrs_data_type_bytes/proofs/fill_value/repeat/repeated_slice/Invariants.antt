use Rattle.std.proofs.Common.{◌≡◌}
use Rattle.zarrs_data_type_bytes.specs.Pieces.{repeated}
use Rattle.zarrs_data_type_bytes.proofs.fill_value.repeat.repeated_slice.Given as goal

abbrev pub invariant-loop : goal.invariant-loop
invariant-loop l = l.bytes.items ≡ repeated l.counter l.fill
