use Rattle.zarrs_data_type.proofs.TypeLaws.{named_is}
use Rattle.zarrs_data_type.proofs.naming_laws.named_types.Goals as goal

pub returns : goal.returns
returns c = named_is
