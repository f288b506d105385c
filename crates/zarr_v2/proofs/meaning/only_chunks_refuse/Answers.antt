use Rattle.zarr_v2.proofs.SameLaws.{only_chunks}
use Rattle.zarr_v2.proofs.meaning.only_chunks_refuse.Goals as goal

pub returns : goal.returns
returns c = λ a f positive answers. only_chunks a f positive answers
