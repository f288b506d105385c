use Rattle.zarr_v2.proofs.SameLaws.{means_the_same}
use Rattle.zarr_v2.proofs.meaning.translation_means_the_same.Goals as goal

pub returns : goal.returns
returns c = λ a f d answers opens. means_the_same a f d answers opens
