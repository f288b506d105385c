use Rattle.zarr_model.proofs.RanLaws.{RanOver-write}
use Rattle.zarr_model.proofs.damage.write_ran.Goals as goal

pub returns : goal.returns
returns c = λ description options well. RanOver-write description options well.covers well.sound
