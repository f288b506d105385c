use Rattle.std.proofs.Common.{◌+◌, ◌<◌, ◌^◌, subst, arith}
use Rattle.zarrs_codec_traits.specs.Prelude.{count, region as region_of, held_bytes, options_of}
use Rattle.zarr_shard_codec.proofs.ReadSteps.{ByIndex, region_few}
use Rattle.zarr_shard_codec.proofs.shard_codec.ShardCodec.read_by_index.Goals as goal

pub chunks_of-requires-clause-few : goal.chunks_of-requires-clause-few
chunks_of-requires-clause-few g c =
    let few : count (region_of c.args.region.now) + 1 < 2 ^ 64 =
    region_few c.args.self.now (region_of c.args.region.now) c.requires.inside in
    omega (arith, few)

pub returns-clause-read : goal.returns-clause-read
returns-clause-read g c =
    let before = g.S.Store.shown c.args.store.now in
    subst (λ d. ByIndex d (options_of c.args.options.now) (region_of c.args.region.now) (held_bytes
    (before.content c.args.key.now)) c.args.index.now before (g.S.Store.shown c.read_all.new.store) c.read_all.result)
    c.in_ok-inner.ensures.codec c.read_all.ensures.read
