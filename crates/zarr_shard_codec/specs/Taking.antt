-- What is refused of valid elements that are to be encoded: too long ones. Where lengths are
-- stored, an inner chunk never has too many elements, and elsewhere no element is too long.
use Rattle.std.specs.Prelude.{◌≡◌, Bool, true, false, not, refl}
use Rattle.std.proofs.Common.{ap, inl, inr}
use Rattle.zarrs_codec_traits.specs.Prelude.{ArrayBytes, has_long_element, BytesAnswer, fine, IsFormRefusal}
use Rattle.zarr_codecs.specs.to_bytes.VlenCodec.{refusal_unless}

abbrev pub long_refusal : ArrayBytes → BytesAnswer
long_refusal bytes = refusal_unless (not (has_long_element bytes))

-- nothing is where all are short, and else their form
pub short_taken : (bytes : ArrayBytes) → has_long_element bytes ≡ false
    → long_refusal bytes ≡ fine
short_taken bytes short = ap (λ b. refusal_unless (not b)) short

pub long_form : (bytes : ArrayBytes) → IsFormRefusal (long_refusal bytes)
long_form bytes = go (has_long_element bytes)
  where
    go : (b : Bool) → IsFormRefusal (refusal_unless (not b))
    go false = inl refl
    go true = inr refl
