use Rattle.zarr_model.proofs.JoinLaws.{RanOver-append}
use Rattle.zarr_model.proofs.damage.runs_join.Goals as goal

pub returns : goal.returns
returns c = λ description options well commands more old mid new answers others first second.
    RanOver-append description options commands more well.covers old mid new answers others first second
