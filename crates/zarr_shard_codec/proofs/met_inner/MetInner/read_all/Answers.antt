use Rattle.zarrs_codec_traits.specs.Prelude.{raw_of, options_of}
use Rattle.zarr_shard_codec.specs.MetInner.{met_codec, region_met, met_content, met_calls, met_size}
use Rattle.zarr_shard_codec.proofs.FetchSteps.{region_read}
use Rattle.zarr_shard_codec.proofs.met_inner.MetInner.read_all.Goals as goal

pub returns-in-Ok-clause-read : goal.returns-in-Ok-clause-read
returns-in-Ok-clause-read g c =
    let met = c.args.self.now in
    let before = g.S.Store.shown c.args.store.now in
    region_read (met_codec met) (region_met met) (met_content met (options_of c.args.options.now) before)
    (met_calls met) (met_size met) before (g.S.Store.shown c.read_each.new.store) c.read_each.new.elements
    (raw_of c.in_ok-bytes-in-Ok.bytes) c.read_each.ensures.holds c.in-Ok.ensures.read.content
    c.in_ok-bytes-in-Ok.ensures.means (c.in_ok-bytes-in-Ok.ensures.short c.read_each.ensures.holds.short)
    c.in-Ok.ensures.read.cost
