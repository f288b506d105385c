use Rattle.zarr_v2.proofs.MeansLaws.{means, turned}
use Rattle.zarr_v2.proofs.meaning.stores_agree.Goals as goal

pub returns : goal.returns
returns c = λ first second alike store array. (
  means first second alike store array,
  means second first (turned first second alike) store array,
)
