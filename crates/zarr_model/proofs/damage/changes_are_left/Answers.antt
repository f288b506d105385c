use Rattle.zarr_model.proofs.LeftLaws.{left_at}
use Rattle.zarr_model.proofs.damage.changes_are_left.Goals as goal

pub returns : goal.returns
returns c = λ description options well command k chunk by_store old mid new listed changed stops stays.
    left_at description options well.covers well.sound command old k mid changed chunk listed by_store new stops stays
