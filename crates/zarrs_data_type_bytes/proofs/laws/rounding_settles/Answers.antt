use Rattle.zarrs_data_type_bytes.proofs.RoundLaws.{settled}
use Rattle.zarrs_data_type_bytes.proofs.laws.rounding_settles.Goals as goal

pub returns : goal.returns
returns c = λ keep size bytes keeps some few all. settled keep size bytes keeps few all
