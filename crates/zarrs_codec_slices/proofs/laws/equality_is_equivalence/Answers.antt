use Rattle.zarrs_codec_slices.proofs.SeenLaws.{same-refl, same-sym, same-trans}
use Rattle.zarrs_codec_slices.proofs.laws.equality_is_equivalence.Goals as goal

pub returns : goal.returns
returns c = record { same = same-refl; turned = same-sym; joined = same-trans }
