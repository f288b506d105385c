use Rattle.std.proofs.Common.{ap, ◌∙◌, ◌^◌, ◌<◌, length, sym, subst}
use Rattle.zarr_model.specs.Element.{fill_element}
use Rattle.zarrs_codec_slices.specs.Filling.{innermost_fill}
use Rattle.zarrs_codec_array_bytes.specs.Steps.{kind_seen}
use Rattle.zarrs_codec_array_bytes.specs.Raw.{raw_of}
use Rattle.zarrs_codec_array_bytes.proofs.MeaningLaws.{filled_answer, short_answer}
use Rattle.zarrs_codec_array_bytes.proofs.array_bytes.ArrayBytes.new_fill_value.Goals as goal

pub returns-clause-filled : goal.returns-clause-filled
returns-clause-filled c = λ x e.
    filled_answer raw_of (kind_seen c.args.data_type.now) c.args.num_elements c.as_ne_bytes.result.now
    c.fill_with.result c.fill_with.ensures.value x
    (ap (fill_element (kind_seen c.args.data_type.now)) c.as_ne_bytes.ensures ∙ e)

pub returns-clause-short : goal.returns-clause-short
returns-clause-short c = λ h.
    short_answer raw_of (kind_seen c.args.data_type.now) c.args.num_elements c.as_ne_bytes.result.now c.fill_with.result
    c.fill_with.ensures.value
    (subst (λ fill. length (innermost_fill (kind_seen c.args.data_type.now) fill) < 2 ^ 32) (sym c.as_ne_bytes.ensures)
    h)
