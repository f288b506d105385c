use Rattle.std.proofs.Common.{◌≡◌, ◌++◌, ap, ◌∙◌, arith}
use Rattle.zarrs_codec_traits.specs.Prelude.{count_of, options_of}
use Rattle.zarr_shard_codec.specs.Pair.{pair_seen}
use Rattle.zarr_shard_codec.specs.ShardCodec.{inner_grid}
use Rattle.zarr_shard_codec.proofs.EncodeLaws.{none_written, one_written, all_written}
use Rattle.zarr_shard_codec.proofs.inner_chunks.InnerChunks.encode_within.Goals as goal

pub loop-number-init : goal.loop-number-init
loop-number-init c = λ list means. none_written c.args.self.now.codec.now (options_of c.args.options.now) list _ _
    c.new-front.ensures.items c.new-index.ensures.items

pub loop-number-preserved : goal.loop-number-preserved
loop-number-preserved c = λ list means.
    one_written c.args.self.now.codec.now (options_of c.args.options.now) list c.loop-number.number
    c.loop-number.front.items c.loop-number.index.items c.append_part.new.front.items c.push_pair.new.out.items
    (pair_seen c.in-Ok.pair)
    (c.loop-number.invariant list means) (c.in-Ok.ensures list means) c.in_ok-push_pair-in-Ok.ensures

pub returns : goal.returns
returns c = λ list means.
    let all : c.loop-number.number ≡ count_of (inner_grid c.args.self.now.codec.now).grid_shape =
    omega (arith, c.num_inner-number-end.ensures) in
    all_written c.args.self.now.codec.now (options_of c.args.options.now) list c.loop-number.number
    c.loop-number.front.items c.loop-number.index.items c.finish_index.new.index.items
    c.extend_from_slice.new.self.items all
    (c.loop-number.invariant list means) c.in_ok-finish_index.ensures
    (c.in_ok-extend_from_slice.ensures.items ∙ ap (λ xs. c.loop-number.front.items ++ xs) c.deref.ensures.value)
