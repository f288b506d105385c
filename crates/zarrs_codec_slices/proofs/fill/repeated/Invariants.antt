use Rattle.std.proofs.Common.{◌≡◌}
use Rattle.zarrs_data_type_bytes.specs.Pieces.{repeated}
use Rattle.zarrs_codec_slices.proofs.fill.repeated.Given as goal

abbrev pub invariant-loop : goal.invariant-loop
invariant-loop l = l.bytes.items ≡ repeated l.counter l.fill
