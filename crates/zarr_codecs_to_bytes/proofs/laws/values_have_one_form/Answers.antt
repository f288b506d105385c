use Rattle.std.proofs.Common.{◌∙◌, ap, length, refl}
use Rattle.zarr_model.specs.Codec.{decode_vlen}
use Rattle.zarr_model.proofs.VlenLaws.{decode_vlen-of, decode_vlen-only}
use Rattle.zarr_codecs_to_bytes.proofs.laws.values_have_one_form.Goals as goal

pub returns : goal.returns
returns c = λ value elements all few items. (
  λ decodes. decode_vlen-only (length elements) value elements all decodes refl,
  λ is. ap (decode_vlen (length elements)) is ∙ decode_vlen-of elements few items,
)
