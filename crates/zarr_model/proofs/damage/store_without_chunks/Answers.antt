use Rattle.zarr_model.proofs.WithoutLaws.{without-is}
use Rattle.zarr_model.proofs.damage.store_without_chunks.Goals as goal

pub returns : goal.returns
returns c = λ place sound which store. without-is place which sound store
