use Rattle.zarr_model.proofs.MendedLaws.{honest-mended}
use Rattle.zarr_model.proofs.damage.honest_is_mended.Goals as goal

pub returns : goal.returns
returns c = honest-mended
