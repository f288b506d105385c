use Rattle.std.proofs.Common.{arith}
use Rattle.std.proofs.lemmas.Str.Pattern.{split_once_first}
use Rattle.zarr_cli.proofs.NewlineLaws.{split_some, split_none}
use Rattle.zarr_cli.proofs.read.cut_text.Goals as goal

pub returns-clause-some : goal.returns-clause-some
returns-clause-some c = split_some c.args.text.now c.split_once.result
    (split_once_first 10 c.args.text.now c.split_once.result c.split_once.ensures.cases (omega arith))

pub returns-clause-none : goal.returns-clause-none
returns-clause-none c = split_none c.args.text.now c.split_once.result
    (split_once_first 10 c.args.text.now c.split_once.result c.split_once.ensures.cases (omega arith))
