use Rattle.std.proofs.Common.{◌≡◌}
use Rattle.zarrs_data_type_bytes.specs.Pieces.{in_pieces}
use Rattle.zarrs_data_type_bytes.specs.Rounding.{rounded_bytes}
use Rattle.zarrs_data_type_bytes.proofs.rounding.round_pieces.Given as goal

abbrev pub invariant-loop-k : goal.invariant-loop-k
invariant-loop-k l = l.bytes ≡ in_pieces (rounded_bytes l.keepbits l.size) l.k l.size l.initial.bytes
