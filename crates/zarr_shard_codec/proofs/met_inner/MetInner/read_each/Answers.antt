use Rattle.std.proofs.Common.{◌≡◌, ◌<◌, length, IsSome, sym, ap, subst, arith}
use Rattle.zarrs_codec_traits.specs.Prelude.{count, chunks_meeting, region, held_bytes, options_of}
use Rattle.zarr_array_boxes.specs.BoxElements.{list_held}
use Rattle.zarr_shard_codec.specs.MetInner.{met_codec, region_met, met_inner_at, value_under}
use Rattle.zarr_shard_codec.specs.ShardCodec.{inner_grid}
use Rattle.zarr_shard_codec.proofs.MetLaws.{num_met, met_here}
use Rattle.zarr_shard_codec.proofs.RegionLaws.{none_read, one_read, all_read, stops_reading}
use Rattle.zarr_shard_codec.proofs.met_inner.MetInner.read_each.Goals as goal

pub loop-number-init : goal.loop-number-init
loop-number-init g c =
    let met = c.args.self.now in
    let store = g.S.Store.shown c.args.store.now in (
      c.requires.holds,
      none_read (met_codec met) (options_of c.args.options.now) (value_under met store) met.index.now (region_met met)
          c.args.elements.now store c.requires.holds
          (g.met.S.Store.counts_fit c.args.store.now).1 (g.met.S.Store.counts_fit c.args.store.now).2,
      g.met.S.Store.kept_self c.args.store.now,
    )

pub read_inner-requires-clause-there : goal.read_inner-requires-clause-there
read_inner-requires-clause-there g c =
    subst IsSome (sym (c.loop-number.invariant.1.cost.same c.args.self.now.key.now)) c.requires.there

pub returns-in-Err-clause-read : goal.returns-in-Err-clause-read
returns-in-Err-clause-read g c =
    let met = c.args.self.now in
    let before = g.S.Store.shown c.args.store.now in
    let mid = g.S.Store.shown c.loop-number.store in
    let below : c.loop-number.number < count (region met.chunks) = omega (arith, c.num_elements-number-end.ensures) in
    stops_reading (met_codec met) (options_of c.args.options.now) (value_under met before) met.index.now
    (region_met met) c.loop-number.number (met_inner_at met c.loop-number.number) (value_under met mid)
    (list_held c.loop-number.elements)
    before mid (g.S.Store.shown c.read_inner.new.store) c.in-Err.error
    (met_here met c.requires.met c.loop-number.number below)
    (ap held_bytes (c.loop-number.invariant.1.cost.same met.key.now)) c.loop-number.invariant.1 c.in-Err.ensures.read

pub loop-number-preserved : goal.loop-number-preserved
loop-number-preserved g c =
    let met = c.args.self.now in
    let before = g.S.Store.shown c.args.store.now in
    let mid = g.S.Store.shown c.loop-number.store in
    let below : c.loop-number.number < count (region met.chunks) = omega (arith, c.num_elements-number-end.ensures) in (
      c.read_inner.ensures.holds,
      one_read (met_codec met) (options_of c.args.options.now) (value_under met before) met.index.now (region_met met)
          c.loop-number.number (met_inner_at met c.loop-number.number) (value_under met mid) c.loop-number.elements
          c.read_inner.new.elements
          before mid (g.S.Store.shown c.read_inner.new.store) (met_here met c.requires.met c.loop-number.number below)
          (ap held_bytes (c.loop-number.invariant.1.cost.same met.key.now)) c.loop-number.invariant.1
          c.in_default.ensures.read,
      g.met.S.Store.kept_twice c.args.store.now c.loop-number.store c.read_inner.new.store c.loop-number.invariant.2
          c.read_inner.ensures.kept,
    )

pub returns-clause-read : goal.returns-clause-read
returns-clause-read g c =
    let met = c.args.self.now in
    let num = num_met met c.requires.met in
    let all : c.loop-number.number ≡ length (chunks_meeting (inner_grid (met_codec met)) (region_met met)) =
    omega (arith, num, c.num_elements-number-end.ensures) in
    let done =
    all_read (met_codec met) (options_of c.args.options.now) (value_under met (g.S.Store.shown c.args.store.now))
    met.index.now (region_met met) c.loop-number.number (list_held c.loop-number.elements)
    (g.S.Store.shown c.args.store.now) (g.S.Store.shown c.loop-number.store) all c.requires.met.inside
    c.loop-number.invariant.1 in
    record { content = done.0; cost = done.1 }
