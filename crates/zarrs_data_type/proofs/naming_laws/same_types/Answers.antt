use Rattle.zarrs_data_type.proofs.SameTypeLaws.{same_is}
use Rattle.zarrs_data_type.proofs.naming_laws.same_types.Goals as goal

pub returns : goal.returns
returns c = same_is
