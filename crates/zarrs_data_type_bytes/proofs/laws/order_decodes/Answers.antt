use Rattle.zarrs_data_type_bytes.proofs.OrderLaws.{decodes}
use Rattle.zarrs_data_type_bytes.proofs.laws.order_decodes.Goals as goal

pub returns : goal.returns
returns c = λ n k bytes some e. decodes n k bytes some e
