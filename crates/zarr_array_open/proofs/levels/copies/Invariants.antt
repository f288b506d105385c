use Rattle.std.proofs.Common.{◌≡◌, take}
use Rattle.zarr_array_open.proofs.levels.copies.Given as goal

abbrev pub invariant-loop-item : goal.invariant-loop-item
invariant-loop-item g l = l.same.items ≡ take l.item-index l.items
