use Rattle.std.proofs.Common.{ℕ, subst}
use Rattle.zarrs_codec_traits.specs.Prelude.{fill_bytes, kind_seen, opposite}
use Rattle.zarr_codecs_elements.specs.Numbers.{TakesOff}
use Rattle.zarr_codecs_array_to_array.specs.OffsetOf.{offset_of}
use Rattle.zarr_codecs_array_to_array.proofs.FillLaws.{sized_fill, fill_made}
use Rattle.zarr_codecs_array_to_array.proofs.offset_codec.OffsetCodecArrayToArrayCodecTraits.encoded_fill_value.Goals as goal

pub returns-clause-value : goal.returns-clause-value
returns-clause-value c = λ served there.
    let z = opposite (offset_of c.args.self.now) in
    fill_made c.shifted_fill.result _ _
    (c.shifted_fill.ensures.sized (sized_fill (kind_seen c.args.decoded_data_type.now) c.in_ok-size.size
    (fill_bytes c.args.decoded_fill_value.now) c.in_ok-size.ensures.kind there))
    (c.shifted_fill.ensures.value z
    (subst (λ (m : ℕ). TakesOff m z c.amount-amount.result) c.in_ok-size.ensures.modulus c.amount-amount.ensures))
