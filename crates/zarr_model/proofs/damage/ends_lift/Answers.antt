use Rattle.zarr_model.proofs.LiftLaws.{left-lifts}
use Rattle.zarr_model.proofs.damage.ends_lift.Goals as goal

pub returns : goal.returns
returns c = λ description options well commands m k command by_store old mid new answers here ran single.
    left-lifts description options commands m k command by_store here old mid new answers ran single
