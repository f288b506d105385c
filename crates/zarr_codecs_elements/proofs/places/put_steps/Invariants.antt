use Rattle.std.proofs.Common.{◌≡◌, ◌≤◌, length, drop}
use Rattle.zarrs_codec_traits.specs.Prelude.{count_of, permuted}
use Rattle.zarr_codecs_elements.specs.Order.{scattered, row_major}
use Rattle.zarr_codecs_elements.proofs.places.put_steps.Given as goal

abbrev pub invariant-loop-next : goal.invariant-loop-next
invariant-loop-next l = record {
  within : l.next ≤ length l.order;
  long : length l.steps ≡ length l.initial.steps;
  step : l.step ≡ count_of (permuted (drop l.next l.order) l.shape);
  put : l.steps ≡ scattered (drop l.next l.order) (row_major (permuted (drop l.next l.order) l.shape)) l.initial.steps;
}

abbrev pub decreases-loop-next : goal.decreases-loop-next
decreases-loop-next l = l.next
