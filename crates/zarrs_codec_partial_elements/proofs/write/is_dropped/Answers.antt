use Rattle.std.proofs.Common.{◌∙◌, sym}
use Rattle.zarrs_codec_traits.specs.Prelude.{kind_of, fill_bytes, type_of, raw_of, options_of}
use Rattle.zarr_model.proofs.BytesLaws.{length-meaning}
use Rattle.zarrs_codec_partial_elements.proofs.WriteLaws.{dropped_by}
use Rattle.zarrs_codec_partial_elements.proofs.write.is_dropped.Goals as goal

pub returns : goal.returns
returns c = λ number list some means.
    let kind = kind_of (type_of c.args.data_type.now) in
    dropped_by (options_of c.args.options.now) kind (fill_bytes c.args.fill_value.now) number list
    c.is_fill_value.result (sym c.store_empty_chunks.ensures ∙ c.if-store_empty_chunks.false) (sym c.is_denoted.ensures
    ∙ c.if-not-is_denoted.false)
    (length-meaning kind number (raw_of c.args.bytes.now) list means)
    (λ x is. c.is_fill_value.ensures.elements kind number list x means some is)
