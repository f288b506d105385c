use Rattle.std.proofs.Common.{◌∙◌}
use Rattle.zarrs_array_subset.proofs.BoxLaws.{zero_is}
use Rattle.zarrs_array_subset.proofs.array_subset.numbers.has_zero.Goals as goal

pub returns : goal.returns
returns c = c.some_is_zero.ensures ∙ zero_is c.args.shape.now
