use Rattle.zarr_model.proofs.PartLaws.{list_with, list_long, part_of_list}
use Rattle.zarr_model.proofs.damage.part_has_list.Goals as goal

pub returns : goal.returns
returns c = λ shape region part inside long. (
  list_with shape region part inside long,
  list_long shape region part inside long,
  part_of_list shape region part inside long,
)
