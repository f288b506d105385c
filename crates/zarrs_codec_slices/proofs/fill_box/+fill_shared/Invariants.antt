use Rattle.std.proofs.Common.{length, ◌-◌, ◌+◌, drop}
use Rattle.zarr_model.specs.Prelude.{count}
use Rattle.zarrs_data_type_bytes.specs.Pieces.{repeated}
use Rattle.zarrs_codec_slices.specs.Overlap.{span_at, in_bytes}
use Rattle.zarrs_array_subset.specs.ArraySubset.{region}
use Rattle.zarrs_codec_slices.proofs.CopyLaws.{CopiedRows}
use Rattle.zarrs_codec_slices.proofs.fill_box.+fill_shared.Given as goal

abbrev pub decreases-fill_shared : goal.decreases-fill_shared
decreases-fill_shared l = length (region l.target_subset.now) - l.axis

abbrev pub invariant-loop-i : goal.invariant-loop-i
invariant-loop-i l =
    CopiedRows ((span_at (region l.target_subset) l.axis).start + (l.shared.target_at + l.i))
    (in_bytes (length l.fill) (drop l.axis (region l.target_subset)))
    (in_bytes (length l.fill) (drop l.axis (region l.subset)))
    (repeated (count (drop l.axis (region l.subset))) l.fill) l.initial.target l.target
