use Rattle.std.proofs.Common.{IsSome, refl, sym, ap₂, ◌∙◌, subst}
use Rattle.zarrs_codec_traits.specs.Prelude.{kind_of, fill_element, fill_bytes, type_of}
use Rattle.zarrs_codec_traits.proofs.FillLaws.{denoted_err}
use Rattle.zarr_shard_codec.proofs.inner_chunks.blank.Goals as goal

pub returns-in-Err-clause-memory : goal.returns-in-Err-clause-memory
returns-in-Err-clause-memory c =
    denoted_err (kind_of (type_of c.data_type.result.now)) (fill_bytes c.fill_value.result.now) c.in-Err.error
    c.in-Err.ensures.answer
    (subst IsSome (sym (ap₂ (λ t f. fill_element (kind_of t) f) c.data_type.ensures c.fill_value.ensures
    ∙ c.requires.fill.denotes)) refl)
