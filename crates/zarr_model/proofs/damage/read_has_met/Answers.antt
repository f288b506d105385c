use Rattle.zarr_model.proofs.MetLaws.{met-has}
use Rattle.zarr_model.proofs.damage.read_has_met.Goals as goal

pub returns : goal.returns
returns c = λ description options well. met-has description options well.sound
