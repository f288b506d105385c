use Rattle.std.proofs.Common.{sym}
use Rattle.zarrs_codec_traits.specs.Prelude.{raw_of, kind_seen}
use Rattle.zarr_codecs_elements.specs.Numbers.{taken_off}
use Rattle.zarr_codecs_array_to_array.specs.OffsetOf.{offset_of}
use Rattle.zarr_codecs_array_to_array.proofs.ShiftLaws.{shifted_means, shifted_meant}
use Rattle.zarr_codecs_array_to_array.proofs.offset_codec.OffsetCodec.shifted.Goals as goal

pub returns-clause-value : goal.returns-clause-value
returns-clause-value c =
    shifted_means (taken_off c.args.decoding (offset_of c.args.self.now)) c.amount-amount.result c.in_ok-size.size
    c.args.num_elements c.in_ok-size.modulus
    (kind_seen c.args.data_type.now) (raw_of c.args.bytes) (raw_of c.in_ok-out.out)
    c.in_ok-size.ensures.kind c.in_ok-size.ensures.some (sym c.in_ok-validate.ensures) c.in_ok-size.ensures.modulus
    c.amount-amount.ensures c.in_ok-out.ensures.value

pub returns-clause-meant : goal.returns-clause-meant
returns-clause-meant c =
    shifted_meant (kind_seen c.args.data_type.now) c.in_ok-size.size c.args.num_elements (raw_of c.args.bytes)
    c.in_ok-size.ensures.kind (sym c.in_ok-validate.ensures) c.in_ok-out.ensures.proper
