use Rattle.std.proofs.Common.{length, ap, sym, ◌∙◌}
use Rattle.std.proofs.lemmas.List.{length-map}
use Rattle.std.specs.Int.NonZero.{non_zero_u64_get}
use Rattle.zarrs_codec_traits.specs.Prelude.{region as box_of, lengths}
use Rattle.zarr_codecs_elements.proofs.BoxLaws.{ends_at}
use Rattle.zarr_codecs_array_to_array.proofs.transpose_codec.TransposeCodecArrayToArrayCodecTraits.inner_subset.Goals as goal

pub permuted_subset-requires-clause-rank : goal.permuted_subset-requires-clause-rank
permuted_subset-requires-clause-rank c =
    (ends_at (box_of c.args.region.now) (lengths c.args.shape.now) c.requires.inside).0
    ∙ (length-map c.args.shape.now non_zero_u64_get
    ∙ (c.in_ok-expect_rank.ensures.rank ∙ (ap length c.deref.ensures.value ∙ sym (ap length c.deref-2.ensures.value))))
