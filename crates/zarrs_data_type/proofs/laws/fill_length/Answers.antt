use Rattle.zarrs_data_type.proofs.FillLaws.{fill_length}
use Rattle.zarrs_data_type.proofs.laws.fill_length.Goals as goal

pub returns : goal.returns
returns c = fill_length
