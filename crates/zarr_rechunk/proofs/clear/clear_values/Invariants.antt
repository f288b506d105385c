use Rattle.zarr_rechunk.proofs.MaskLaws.{Grown}
use Rattle.zarr_rechunk.proofs.clear.clear_values.Given as goal

abbrev pub invariant-loop-place : goal.invariant-loop-place
invariant-loop-place l = Grown l.place l.mask l.offsets l.value l.bytes.items l.ends.items
