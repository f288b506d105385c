use Rattle.std.proofs.Common.{◌≡◌, ◌++◌, ◌∷◌, drop, map, length}
use Rattle.std.specs.List.{flat_map}
use Rattle.zarr_model.specs.ArrayBytes.{ends_from}
use Rattle.zarrs_codec_slices.specs.Picking.{picked_value}
use Rattle.zarrs_codec_slices.specs.PickedRuns.{run_numbers}
use Rattle.zarrs_codec_slices.proofs.value_runs.gather_value_runs.Given as goal

abbrev pub invariant-loop-run : goal.invariant-loop-run
invariant-loop-run l =
    (l.bytes.items
    ++ flat_map (picked_value l.count l.old l.old_offsets l.new l.new_offsets) (run_numbers (drop l.run-index l.runs))
    ≡ flat_map (picked_value l.count l.old l.old_offsets l.new l.new_offsets) (run_numbers l.runs))
    × (l.offsets.items ++ ends_from (length l.bytes.items)
    (map (picked_value l.count l.old l.old_offsets l.new l.new_offsets) (run_numbers (drop l.run-index l.runs)))
    ≡ 0 ∷ ends_from 0 (map (picked_value l.count l.old l.old_offsets l.new l.new_offsets) (run_numbers l.runs)))
