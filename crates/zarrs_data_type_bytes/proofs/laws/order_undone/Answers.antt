use Rattle.zarrs_data_type_bytes.proofs.OrderLaws.{undone}
use Rattle.zarrs_data_type_bytes.proofs.laws.order_undone.Goals as goal

pub returns : goal.returns
returns c = λ n order bytes there e. undone n order bytes there e
