use Rattle.std.proofs.Common.{◌≡◌, ◌-◌, ◌≤◌, length, drop}
use Rattle.std.specs.List.{range_with_len}
use Rattle.zarr_codecs_elements.specs.Order.{scattered}
use Rattle.zarr_codecs_elements.proofs.orders.put_places.Given as goal

abbrev pub invariant-loop-next : goal.invariant-loop-next
invariant-loop-next l = record {
  within : l.next ≤ length l.order;
  long : length l.places ≡ length l.initial.places;
  put : l.places ≡ scattered (drop l.next l.order) (range_with_len l.next (length l.order - l.next)) l.initial.places;
}

abbrev pub decreases-loop-next : goal.decreases-loop-next
decreases-loop-next l = l.next
