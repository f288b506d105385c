use Rattle.zarrs_data_type.proofs.FillLaws.{fill_denotes}
use Rattle.zarrs_data_type.proofs.laws.fill_denotes.Goals as goal

pub returns : goal.returns
returns c = fill_denotes
