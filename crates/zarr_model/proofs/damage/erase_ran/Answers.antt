use Rattle.zarr_model.proofs.RanLaws.{RanOver-erase}
use Rattle.zarr_model.proofs.damage.erase_ran.Goals as goal

pub returns : goal.returns
returns c = λ description options well. RanOver-erase description options well.covers well.sound
