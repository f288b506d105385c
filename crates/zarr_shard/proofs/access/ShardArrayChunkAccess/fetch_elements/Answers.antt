use Rattle.std.proofs.Common.{◌≡◌, true, sym, subst}
use Rattle.zarrs_codec_traits.specs.Prelude.{ends_within, options_of}
use Rattle.zarrs_codec.proofs.BoxLaws.{whole_inside}
use Rattle.zarr_shard.proofs.AccessLaws.{whole_read, whole_paid}
use Rattle.zarr_shard.proofs.DescribedLaws.{dims}
use Rattle.zarr_shard.proofs.access.ShardArrayChunkAccess.fetch_elements.Goals as goal

pub returns-clause-fetched : goal.returns-clause-fetched
returns-clause-fetched g c =
    whole_read c.args.self.now (options_of c.args.options.now) c.args.place.now.indices.items c.requires.place.is_chunk
    (g.S.Store.shown c.args.store.now) (g.S.Store.shown c.read_region.new.store)
    c.args.place.now.key c.requires.place.key _ c.in_ok-whole.ensures c.read_region.result c.read_region.ensures.read
    c.read_region.ensures.puts

pub returns-clause-paid : goal.returns-clause-paid
returns-clause-paid g c =
    whole_paid c.args.self.now (options_of c.args.options.now) c.args.place.now.indices.items c.requires.place.is_chunk
    (g.S.Store.shown c.args.store.now) (g.S.Store.shown c.read_region.new.store)
    c.args.place.now.key c.requires.place.key _ c.in_ok-whole.ensures c.read_region.result c.read_region.ensures.read

pub read_region-requires : goal.read_region-requires
read_region-requires g c = record {
  inside = subst (λ r.
      ends_within r (dims c.args.self.now) ≡ true) (sym c.in_ok-whole.ensures) (whole_inside (dims c.args.self.now));
}
