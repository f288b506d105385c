use Rattle.std.proofs.Common.{◌≡◌, ◌++◌, drop}
use Rattle.zarr_rechunk.specs.Cleared.{mask_under}
use Rattle.zarr_rechunk.proofs.clear.clear_mask.Given as goal

abbrev pub invariant-loop-place : goal.invariant-loop-place
invariant-loop-place l =
    l.cleared.items ++ mask_under (drop l.place l.above) (drop l.place l.mask) ≡ mask_under l.above l.mask
