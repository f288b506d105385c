use Rattle.std.proofs.Common.{◌≡◌, ◌*◌, length, take}
use Rattle.zarrs_data_type_bytes.specs.Pieces.{repeated}
use Rattle.zarrs_data_type_bytes.proofs.fill_value.all_pieces.Given as goal

abbrev pub invariant-loop-k : goal.invariant-loop-k
invariant-loop-k l = take (l.k * length l.fill) l.bytes ≡ repeated l.k l.fill
