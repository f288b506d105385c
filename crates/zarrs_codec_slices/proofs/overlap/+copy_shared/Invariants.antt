use Rattle.std.proofs.Common.{length, ◌-◌, ◌+◌, drop}
use Rattle.zarrs_codec_slices.specs.Overlap.{span_at, in_bytes}
use Rattle.zarrs_array_subset.specs.ArraySubset.{region}
use Rattle.zarrs_codec_slices.proofs.CopyLaws.{CopiedRows}
use Rattle.zarrs_codec_slices.proofs.overlap.+copy_shared.Given as goal

abbrev pub decreases-copy_shared : goal.decreases-copy_shared
decreases-copy_shared l = length (region l.target_subset.now) - l.axis

abbrev pub invariant-loop-i : goal.invariant-loop-i
invariant-loop-i l =
    CopiedRows ((span_at (region l.target_subset) l.axis).start + (l.shared.target_at + l.i))
    (in_bytes l.size (drop l.axis (region l.target_subset))) (in_bytes l.size (drop l.axis (region l.source_subset)))
    l.source l.initial.target l.target
