use Rattle.zarr_model.proofs.MendedLaws.{ran-mended}
use Rattle.zarr_model.proofs.damage.ran_is_mended.Goals as goal

pub returns : goal.returns
returns c = λ description options commands old new keeps. ran-mended description options commands old new keeps new
