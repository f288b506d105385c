use Rattle.std.proofs.Common.{subst}
use Rattle.zarrs_codec_traits.specs.Prelude.{raw_of, level_of}
use Rattle.zarr_codecs.specs.Plain.{Plain}
use Rattle.zarr_codecs.specs.Answers.{Encodes}
use Rattle.zarr_codecs.proofs.optional.OptionalCodecArrayToBytesCodecTraits.encode.Goals as goal

pub returns-clause-value : goal.returns-clause-value
returns-clause-value c =
    let level = level_of c.args.shape.now c.args.data_type.now c.args.fill_value.now in
    (subst (λ (plain : Plain). Encodes plain level (raw_of c.args.bytes) c.encode_optional.result) c.inner.ensures
    c.encode_optional.ensures).value
