use Rattle.std.proofs.Common.{◌≡◌}
use Rattle.zarrs_array_subset.proofs.Lengths.{partly}
use Rattle.zarrs_array_subset.proofs.array_subset.numbers.turn_to_lengths.Given as goal

abbrev pub invariant-loop-i : goal.invariant-loop-i
invariant-loop-i l = l.ends ≡ partly l.more l.i l.initial.ends l.starts
