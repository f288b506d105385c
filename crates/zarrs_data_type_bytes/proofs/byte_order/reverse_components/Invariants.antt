use Rattle.std.proofs.Common.{◌≡◌, reverse}
use Rattle.zarrs_data_type_bytes.specs.Pieces.{in_pieces}
use Rattle.zarrs_data_type_bytes.proofs.byte_order.reverse_components.Given as goal

abbrev pub invariant-loop-k : goal.invariant-loop-k
invariant-loop-k l = l.bytes ≡ in_pieces reverse l.k l.size l.initial.bytes
