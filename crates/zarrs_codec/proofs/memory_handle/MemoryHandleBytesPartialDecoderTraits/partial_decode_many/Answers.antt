use Rattle.std.proofs.Common.{ap, sym, subst, is_some, Option, Vec, ℕ, Global}
use Rattle.zarrs_codec_traits.specs.Prelude.{value_bytes, value_part}
use Rattle.zarrs_codec_traits.specs.Reads.{AreAbsent}
use Rattle.zarrs_codec_traits.proofs.PartLaws.{none_absent}
use Rattle.zarrs_codec.proofs.memory_handle.MemoryHandleBytesPartialDecoderTraits.partial_decode_many.Goals as goal

pub returns-in-None-clause-value : goal.returns-in-None-clause-value
returns-in-None-clause-value c = (
  ap (λ (v : Option (Vec ℕ Global)). is_some (value_bytes v)) c.in-None.is,
  subst (λ (v : Option (Vec ℕ Global)). AreAbsent (value_part (value_bytes v)) c.args.decoded_regions.now)
      (sym c.in-None.is) (none_absent c.args.decoded_regions.now),
)
