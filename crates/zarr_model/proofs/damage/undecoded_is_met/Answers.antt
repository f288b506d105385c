use Rattle.zarr_model.proofs.RanLaws.{undecoded-unmet}
use Rattle.zarr_model.proofs.damage.undecoded_is_met.Goals as goal

pub returns : goal.returns
returns c = undecoded-unmet
