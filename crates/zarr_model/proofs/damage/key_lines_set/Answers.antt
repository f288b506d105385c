use Rattle.zarr_model.proofs.KeyLineLaws.{key-lines}
use Rattle.zarr_model.proofs.damage.key_lines_set.Goals as goal

pub returns : goal.returns
returns c = λ entries. key-lines entries
