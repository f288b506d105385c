use Rattle.std.proofs.Common.{◌≡◌, ◌++◌}
use Rattle.zarr_v2.specs.Translate.{reversed_order}
use Rattle.zarr_v2.proofs.parts.falling_numbers.Given as goal

abbrev pub invariant-loop-left : goal.invariant-loop-left
invariant-loop-left l = l.numbers.items ++ reversed_order l.left ≡ reversed_order l.count

abbrev pub decreases-loop-left : goal.decreases-loop-left
decreases-loop-left l = l.left
