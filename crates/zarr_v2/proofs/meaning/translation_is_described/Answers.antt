use Rattle.zarr_v2.proofs.StepLaws.{described}
use Rattle.zarr_v2.proofs.meaning.translation_is_described.Goals as goal

pub returns : goal.returns
returns c = λ a stored fill filler fits denotes. described a stored fill filler fits denotes
