use Rattle.zarr_model.proofs.RanLaws.{honest-left}
use Rattle.zarr_model.proofs.damage.honest_is_left.Goals as goal

pub returns : goal.returns
returns c = honest-left
