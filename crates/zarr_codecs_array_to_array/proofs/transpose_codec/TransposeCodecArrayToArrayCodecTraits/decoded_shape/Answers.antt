use Rattle.std.proofs.Common.{length, ap, sym, ◌∙◌}
use Rattle.zarr_codecs_array_to_array.specs.OrderOf.{order_of}
use Rattle.zarr_codecs_array_to_array.proofs.CodecLaws.{inverse_below}
use Rattle.zarr_codecs_array_to_array.proofs.transpose_codec.TransposeCodecArrayToArrayCodecTraits.decoded_shape.Goals as goal

pub permuted_shape-requires : goal.permuted_shape-requires
permuted_shape-requires c =
    inverse_below (order_of c.args.self.now) c.deref-2.result.now c.deref-3.result.now (length c.args.encoded_shape.now)
    c.args.self.now.orders c.deref-2.ensures.value
    (c.in_ok-expect_rank.ensures.rank ∙ (ap length c.deref.ensures.value ∙ sym (ap length c.deref-2.ensures.value)))
    (c.deref-3.ensures.value ∙ c.in_ok-back.ensures)
