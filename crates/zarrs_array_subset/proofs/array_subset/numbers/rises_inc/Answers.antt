use Rattle.std.proofs.Common.{◌∙◌, arith}
use Rattle.zarrs_array_subset.proofs.BoxLaws.{rising_inc_by_zip}
use Rattle.zarrs_array_subset.proofs.array_subset.numbers.rises_inc.Goals as goal

pub returns-then-start-end : goal.returns-then-start-end
returns-then-start-end c = c.rise_before_last.ensures ∙ rising_inc_by_zip c.args.start.now c.args.end.now (omega arith)
