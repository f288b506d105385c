use Rattle.std.proofs.Common.{◌≡◌, ◌++◌, length}
use Rattle.zarr_codecs_elements.specs.Numbers.{each_piece, raised}
use Rattle.zarr_codecs_elements.proofs.numbers.raise_each.Given as goal

abbrev pub invariant-loop-rest : goal.invariant-loop-rest
invariant-loop-rest l =
    l.out.items ++ each_piece (raised l.amount) l.size l.rest ≡ each_piece (raised l.amount) l.size l.fn.bytes

abbrev pub decreases-loop-rest : goal.decreases-loop-rest
decreases-loop-rest l = length l.rest
