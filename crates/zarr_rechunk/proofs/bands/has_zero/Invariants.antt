use Rattle.std.proofs.Common.{◌≡◌, ◌==◌, drop}
use Rattle.std.specs.List.{list_any}
use Rattle.zarr_rechunk.proofs.bands.has_zero.Given as goal

abbrev pub invariant-loop-length : goal.invariant-loop-length
invariant-loop-length l = list_any (λ n. n == 0) l.shape ≡ list_any (λ n. n == 0) (drop l.length-index l.shape)
