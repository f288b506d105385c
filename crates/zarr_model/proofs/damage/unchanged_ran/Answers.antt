use Rattle.zarr_model.proofs.RanLaws.{RanOver-unchanged}
use Rattle.zarr_model.proofs.damage.unchanged_ran.Goals as goal

pub returns : goal.returns
returns c = RanOver-unchanged
