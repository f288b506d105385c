use Rattle.std.proofs.Common.{arith}
use Rattle.std.proofs.lemmas.Str.Pattern.{strip_prefix_char}
use Rattle.zarrs_data_type.proofs.MakingLaws.{behind-from}
use Rattle.zarrs_data_type.proofs.data_type.create.digits_of.Goals as goal

pub returns : goal.returns
returns c = behind-from 114 c.args.name.now c.strip_prefix.result
    (strip_prefix_char 114 c.args.name.now c.strip_prefix.result c.strip_prefix.ensures.cases (omega arith))
