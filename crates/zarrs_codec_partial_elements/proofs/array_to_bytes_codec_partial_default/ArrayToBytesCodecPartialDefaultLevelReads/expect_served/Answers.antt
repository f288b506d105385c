use Rattle.zarr_model.proofs.Choices.{always_err}
use Rattle.zarrs_codec.proofs.NamedLaws.{codec_served}
use Rattle.zarrs_codec_partial_elements.proofs.ServedLaws.{served_if, never_err}
use Rattle.zarrs_codec_partial_elements.proofs.array_to_bytes_codec_partial_default.ArrayToBytesCodecPartialDefaultLevelReads.expect_served.Goals as goal

pub returns-clause-served : goal.returns-clause-served
returns-clause-served g c = served_if _ c.expect_served.result c.expect_served.ensures.named

pub returns-clause-named : goal.returns-clause-named
returns-clause-named g c = always_err c.expect_served.result c.expect_served.ensures.named

pub returns-clause-memory : goal.returns-clause-memory
returns-clause-memory g c = λ none. never_err _ c.expect_served.result
    (c.expect_served.ensures.served (codec_served _ none))
