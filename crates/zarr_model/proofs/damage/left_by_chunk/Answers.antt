use Rattle.zarr_model.proofs.RanLaws.{left-by_chunk}
use Rattle.zarr_model.proofs.damage.left_by_chunk.Goals as goal

pub returns : goal.returns
returns c = λ description options well. left-by_chunk description options well.covers well.sound
