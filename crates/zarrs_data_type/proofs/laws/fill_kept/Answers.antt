use Rattle.zarrs_data_type.proofs.FillLaws.{fill_kept}
use Rattle.zarrs_data_type.proofs.laws.fill_kept.Goals as goal

pub returns : goal.returns
returns c = fill_kept
