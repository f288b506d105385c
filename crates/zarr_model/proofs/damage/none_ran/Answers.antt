use Rattle.zarr_model.proofs.RanLaws.{RanOver-none}
use Rattle.zarr_model.proofs.damage.none_ran.Goals as goal

pub returns : goal.returns
returns c = RanOver-none
