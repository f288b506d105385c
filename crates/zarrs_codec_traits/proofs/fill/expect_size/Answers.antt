use Rattle.zarrs_codec_traits.specs.Prelude.{fill_bytes, kind_seen}
use Rattle.zarrs_codec_traits.proofs.FillLaws.{denoted_err}
use Rattle.zarrs_codec_traits.proofs.fill.expect_size.Goals as goal

pub returns-clause-memory : goal.returns-clause-memory
returns-clause-memory c = denoted_err (kind_seen c.args.data_type.now) (fill_bytes c.args.fill_value.now) c.in-Err.error
    c.in-Err.ensures.answer
