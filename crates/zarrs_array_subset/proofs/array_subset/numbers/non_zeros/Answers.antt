use Rattle.std.proofs.Common.{◌≡◌, get_or, arith}
use Rattle.std.proofs.lemmas.Grind.{common_steps}
use Rattle.zarrs_array_subset.proofs.BoxLaws.{zero_count}
use Rattle.zarrs_array_subset.proofs.array_subset.numbers.non_zeros.Goals as goal

pub returns-in_default-clause-none : goal.returns-in_default-clause-none
returns-in_default-clause-none c =
    let zero : get_or c.args.numbers.now c.loop-n.n-index 0 ≡ 0 = grind (arith, common_steps) in
    zero_count c.args.numbers.now c.loop-n.n-index (omega arith) zero
