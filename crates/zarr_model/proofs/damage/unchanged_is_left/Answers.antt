use Rattle.zarr_model.proofs.RanLaws.{unchanged-left}
use Rattle.zarr_model.proofs.damage.unchanged_is_left.Goals as goal

pub returns : goal.returns
returns c = λ description options well. unchanged-left description options well.covers well.sound
