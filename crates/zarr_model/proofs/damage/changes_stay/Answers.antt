use Rattle.zarr_model.proofs.RanLaws.{changes-stay}
use Rattle.zarr_model.proofs.damage.changes_stay.Goals as goal

pub returns : goal.returns
returns c = λ description options well. changes-stay description options well.covers well.sound
