use Rattle.std.proofs.Common.{◌≡◌, ◌++◌, ◌+◌, ◌-◌, ◌*◌, length, drop}
use Rattle.zarr_rechunk.specs.Cleared.{pieces_under}
use Rattle.zarr_rechunk.proofs.clear.clear_pieces.Given as goal

abbrev pub invariant-loop-flag : goal.invariant-loop-flag
invariant-loop-flag l = record {
  done : l.cleared.items ++ pieces_under l.size (drop l.flag-index l.mask) l.left ≡ pieces_under l.size l.mask l.value;
  long : length l.left ≡ (length l.mask - l.flag-index) * l.size;
  room : length l.cleared.items + length l.left ≡ length l.value;
}
