use Rattle.std.proofs.Common.{◌≡◌, ◌*◌, take}
use Rattle.zarrs_data_type_bytes.specs.Pieces.{repeated}
use Rattle.zarrs_data_type_bytes.proofs.fill_value.lanes.are_lanes.Given as goal

abbrev pub invariant-loop-k : goal.invariant-loop-k
invariant-loop-k l = take (l.k * 16) l.bytes ≡ repeated l.k l.lanes
