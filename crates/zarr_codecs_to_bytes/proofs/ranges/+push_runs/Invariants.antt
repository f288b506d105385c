use Rattle.std.proofs.Common.{length, ◌≡◌, ◌++◌, slice_index_or}
use Rattle.zarrs_codec_traits.specs.Prelude.{region_of, lengths}
use Rattle.zarr_codecs_to_bytes.proofs.RowLaws.{rows_after}
use Rattle.zarr_codecs_to_bytes.proofs.ranges.+push_runs.Given as goal

abbrev pub decreases-push_runs : goal.decreases-push_runs
decreases-push_runs l = length l.array_shape.now

abbrev pub invariant-loop-i : goal.invariant-loop-i
invariant-loop-i l = l.ranges.items ≡ l.initial.ranges.items ++ rows_after l.before l.size l.row (lengths l.inner)
    (region_of l.rest_start l.rest_shape) (slice_index_or l.start 0 0) l.i
