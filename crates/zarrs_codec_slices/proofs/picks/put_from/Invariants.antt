use Rattle.std.proofs.Common.{◌≡◌, ◌+◌, ◌-◌, drop, length}
use Rattle.std.specs.List.{range_with_len}
use Rattle.zarrs_codec_slices.specs.Picking.{replaced}
use Rattle.zarrs_codec_slices.proofs.picks.put_from.Given as goal

abbrev pub invariant-loop-index : goal.invariant-loop-index
invariant-loop-index l =
    (l.next ≡ l.from + l.index-index) × (length l.picks ≡ length l.initial.picks)
    × (replaced (drop l.index-index l.indices) (range_with_len l.next (length l.indices - l.index-index)) l.picks
    ≡ replaced l.indices (range_with_len l.from (length l.indices)) l.initial.picks)
