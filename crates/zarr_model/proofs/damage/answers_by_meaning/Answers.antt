use Rattle.zarr_model.proofs.JoinLaws.{answers-meant}
use Rattle.zarr_model.proofs.damage.answers_by_meaning.Goals as goal

pub returns : goal.returns
returns c = λ description options well commands old new answers ran.
    answers-meant description options well.covers well.sound commands old new answers ran
