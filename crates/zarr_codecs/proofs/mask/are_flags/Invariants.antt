use Rattle.std.proofs.Common.{◌≡◌, drop, nat_le}
use Rattle.std.specs.List.{list_all}
use Rattle.zarr_codecs.proofs.mask.are_flags.Given as goal

abbrev pub invariant-loop-b : goal.invariant-loop-b
invariant-loop-b l = list_all (λ b. nat_le b 1) (drop l.b-index l.mask) ≡ list_all (λ b. nat_le b 1) l.mask
