use Rattle.std.proofs.Common.{◌≡◌, ◌-◌, ◌*◌, ◌<◌, ◌≤◌, length, take}
use Rattle.zarrs_data_type_bytes.specs.Pieces.{repeated}
use Rattle.zarrs_codec_slices.proofs.fill_box.fill_doubling.Given as goal

abbrev pub decreases-loop-filled : goal.decreases-loop-filled
decreases-loop-filled l = l.num_elements - l.filled

abbrev pub invariant-loop-filled : goal.invariant-loop-filled
invariant-loop-filled l = record {
  some : 0 < l.filled;
  within : l.filled ≤ l.num_elements;
  long : length l.target ≡ l.num_elements * length l.fill;
  done : take (l.filled * length l.fill) l.target ≡ repeated l.filled l.fill;
}
