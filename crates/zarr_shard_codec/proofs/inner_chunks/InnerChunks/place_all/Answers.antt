use Rattle.std.proofs.Common.{◌≡◌, ◌<◌, arith}
use Rattle.zarrs_codec_traits.specs.Prelude.{count_of, options_of}
use Rattle.zarr_array_boxes.specs.BoxElements.{list_held}
use Rattle.zarr_shard_codec.specs.ShardCodec.{inner_grid}
use Rattle.zarr_shard_codec.proofs.WholeLaws.{none_put, one_put, stops_putting, all_put}
use Rattle.zarr_shard_codec.proofs.inner_chunks.InnerChunks.place_all.Goals as goal

pub loop-number-init : goal.loop-number-init
loop-number-init c = (
  c.requires.holds,
  none_put c.args.self.now.codec.now (options_of c.args.options.now)
      c.args.value.now c.args.index.now c.args.elements.now c.requires.holds,
)

pub returns-in-Err-clause-put : goal.returns-in-Err-clause-put
returns-in-Err-clause-put c =
    let below : c.loop-number.number < count_of (inner_grid c.args.self.now.codec.now).grid_shape =
    omega (arith, c.num_inner-number-end.ensures) in
    stops_putting c.args.self.now.codec.now (options_of c.args.options.now) c.args.value.now c.args.index.now
    c.loop-number.number (list_held c.loop-number.elements) c.in-Err.error below c.loop-number.invariant.1
    c.in-Err.ensures.put

pub loop-number-preserved : goal.loop-number-preserved
loop-number-preserved c =
    let below : c.loop-number.number < count_of (inner_grid c.args.self.now.codec.now).grid_shape =
    omega (arith, c.num_inner-number-end.ensures) in (
      c.place_inner.ensures.holds,
      one_put c.args.self.now.codec.now (options_of c.args.options.now) c.args.value.now
          c.args.index.now c.loop-number.number c.loop-number.elements c.place_inner.new.elements below
          c.loop-number.invariant.1 c.in_default.ensures.put,
    )

pub returns-clause-put : goal.returns-clause-put
returns-clause-put c =
    let all : c.loop-number.number ≡ count_of (inner_grid c.args.self.now.codec.now).grid_shape =
    omega (arith, c.num_inner-number-end.ensures) in
    all_put c.args.self.now.codec.now (options_of c.args.options.now) c.args.value.now c.args.index.now
    c.loop-number.number (list_held c.loop-number.elements) all c.loop-number.invariant.1
