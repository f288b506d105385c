use Rattle.std.proofs.Common.{◌≡◌, ◌++◌, ◌-◌, ◌∷◌, length, replicate}
use Rattle.zarr_model.specs.ArrayBytes.{ends_from}
use Rattle.zarrs_data_type_bytes.specs.Pieces.{repeated}
use Rattle.zarrs_codec_slices.proofs.values.repeated_values.Given as goal

abbrev pub invariant-loop : goal.invariant-loop
invariant-loop l =
    (l.bytes.items ++ repeated (l.count - l.counter) l.value ≡ repeated l.count l.value)
    × (l.offsets.items ++ ends_from (length l.bytes.items) (replicate (l.count - l.counter) l.value) ≡
    0 ∷ ends_from 0 (replicate l.count l.value))
