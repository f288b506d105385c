use Rattle.zarrs_codec_slices.proofs.ValidLaws.{valid_same}
use Rattle.zarrs_codec_slices.proofs.laws.equality_of_valid.Goals as goal

pub returns : goal.returns
returns c = valid_same
