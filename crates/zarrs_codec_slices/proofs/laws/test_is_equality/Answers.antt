use Rattle.zarrs_codec_slices.proofs.SeenLaws.{optional_test}
use Rattle.zarrs_codec_slices.proofs.laws.test_is_equality.Goals as goal

pub returns : goal.returns
returns c = optional_test
