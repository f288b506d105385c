use Rattle.std.proofs.Common.{◌∙◌, arith}
use Rattle.zarrs_array_subset.proofs.BoxLaws.{rising_by_zip}
use Rattle.zarrs_array_subset.proofs.array_subset.numbers.rises.Goals as goal

pub returns-then-start-end : goal.returns-then-start-end
returns-then-start-end c = c.is_below.ensures ∙ rising_by_zip c.args.start.now c.args.end.now (omega arith)
