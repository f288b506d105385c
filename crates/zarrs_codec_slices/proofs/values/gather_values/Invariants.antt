use Rattle.std.proofs.Common.{◌≡◌, ◌++◌, ◌∷◌, drop, map, length}
use Rattle.std.specs.List.{flat_map}
use Rattle.zarr_model.specs.ArrayBytes.{ends_from}
use Rattle.zarrs_codec_slices.specs.Picking.{picked_value}
use Rattle.zarrs_codec_slices.proofs.values.gather_values.Given as goal

abbrev pub invariant-loop-pick : goal.invariant-loop-pick
invariant-loop-pick l =
    (l.bytes.items ++ flat_map (picked_value l.count l.old l.old_offsets l.new l.new_offsets)
    (drop l.pick-index l.picks) ≡ flat_map (picked_value l.count l.old l.old_offsets l.new l.new_offsets) l.picks)
    × (l.offsets.items ++ ends_from (length l.bytes.items)
    (map (picked_value l.count l.old l.old_offsets l.new l.new_offsets) (drop l.pick-index l.picks))
    ≡ 0 ∷ ends_from 0 (map (picked_value l.count l.old l.old_offsets l.new l.new_offsets) l.picks))
