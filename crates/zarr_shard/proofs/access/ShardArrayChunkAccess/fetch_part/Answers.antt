use Rattle.std.proofs.Common.{◌≡◌, true, subst}
use Rattle.zarrs_codec_traits.specs.Prelude.{ends_within, region, options_of}
use Rattle.zarr_shard.proofs.AccessLaws.{part_read, part_paid, part_unread}
use Rattle.zarr_shard.proofs.DescribedLaws.{box_is}
use Rattle.zarr_shard.proofs.access.ShardArrayChunkAccess.fetch_part.Goals as goal

pub returns-in-Ok-clause-fetched : goal.returns-in-Ok-clause-fetched
returns-in-Ok-clause-fetched g c =
    part_read c.args.self.now (options_of c.args.options.now) c.args.place.now.indices.items c.requires.place.is_chunk
    (g.S.Store.shown c.args.store.now) (g.S.Store.shown c.read_region.new.store)
    c.args.place.now.key c.requires.place.key (region c.args.within.now) c.requires.inside c.requires.some c.in-Ok.bytes
    c.in-Ok.ensures.read c.read_region.ensures.puts

pub returns-in-Ok-clause-paid : goal.returns-in-Ok-clause-paid
returns-in-Ok-clause-paid g c =
    part_paid c.args.self.now (options_of c.args.options.now) c.args.place.now.indices.items c.requires.place.is_chunk
    (g.S.Store.shown c.args.store.now) (g.S.Store.shown c.read_region.new.store)
    c.args.place.now.key c.requires.place.key (region c.args.within.now) c.requires.inside c.requires.some c.in-Ok.bytes
    c.in-Ok.ensures.read

pub returns-in-Err-clause-fetched : goal.returns-in-Err-clause-fetched
returns-in-Err-clause-fetched g c =
    part_unread c.args.self.now (options_of c.args.options.now) c.args.place.now.indices.items c.requires.place.is_chunk
    (g.S.Store.shown c.args.store.now) (g.S.Store.shown c.read_region.new.store)
    c.args.place.now.key c.requires.place.key (region c.args.within.now) c.requires.inside c.requires.some
    c.in-Err.error c.in-Err.ensures.read c.read_region.ensures.puts

pub read_region-requires : goal.read_region-requires
read_region-requires g c = record {
  inside = subst (λ lengths. ends_within (region c.args.within.now) lengths ≡
      true) (box_is c.args.self.now c.args.place.now.indices.items c.requires.place.is_chunk) c.requires.inside;
}
