use Rattle.std.proofs.Common.{ap, ◌∙◌}
use Rattle.zarr_model.specs.Element.{fill_element}
use Rattle.zarrs_codec_slices.proofs.AreFillLaws.{fill_means}
use Rattle.zarrs_codec_array_bytes.specs.Raw.{raw_of}
use Rattle.zarrs_codec_array_bytes.proofs.array_bytes.ArrayBytes.is_fill_value.Goals as goal

pub returns-clause-elements : goal.returns-clause-elements
returns-clause-elements c = λ kind number xs x e h f.
    let law = fill_means kind number (raw_of c.args.self.now) c.as_ne_bytes.result.now xs x e h
    (ap (fill_element kind) c.as_ne_bytes.ensures ∙ f) in
    ((λ t. law.0 (c.are_fill.ensures.0 t)), (λ s. c.are_fill.ensures.1 (law.1 s)))
