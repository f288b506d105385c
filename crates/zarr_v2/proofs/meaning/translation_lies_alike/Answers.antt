use Rattle.zarr_v2.proofs.SameLaws.{lie_alike}
use Rattle.zarr_v2.proofs.meaning.translation_lies_alike.Goals as goal

pub returns : goal.returns
returns c = λ a f d answers opens. lie_alike a f d answers opens
