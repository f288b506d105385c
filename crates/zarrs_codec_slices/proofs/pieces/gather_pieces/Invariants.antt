use Rattle.std.proofs.Common.{◌≡◌, ◌++◌, drop}
use Rattle.std.specs.List.{flat_map}
use Rattle.zarrs_codec_slices.specs.Picking.{picked_piece}
use Rattle.zarrs_codec_slices.proofs.pieces.gather_pieces.Given as goal

abbrev pub invariant-loop-pick : goal.invariant-loop-pick
invariant-loop-pick l =
    l.out.items ++ flat_map (picked_piece l.size l.count l.old l.new) (drop l.pick-index l.picks) ≡
    flat_map (picked_piece l.size l.count l.old l.new) l.picks
