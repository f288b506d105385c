use Rattle.std.proofs.lemmas.Result.{err_from_is_err_and}
use Rattle.zarrs_codec_traits.specs.Prelude.{region, options_of}
use Rattle.zarr_chunks.specs.declared.fetched.Fetched.{Fetched}
use Rattle.zarr_array.proofs.ChunkLaws.{lent_serves}
use Rattle.zarr_array.proofs.FetchSteps.{asked_at_most, part_failed}
use Rattle.zarr_array.proofs.FoundLaws.{is_found}
use Rattle.zarr_array.proofs.PartSteps.{within_level, fetched_part}
use Rattle.zarr_array.proofs.RegionTakenLaws.{box_takes}
use Rattle.zarr_array.proofs.plain.ArrayPartsChunkAccess.fetch_part.Goals as goal

pub fetch_region-requires : goal.fetch_region-requires
fetch_region-requires g c =
    let array = c.args.self.now in
    let serves = lent_serves array c.chain-chain.result.now c.args.levels.now
    (c.args.place.now.indices.items) c.chain-chain.ensures c.requires.levels in
    record {
      serves = serves.serves;
      inside = within_level array c.chain-chain.result.now c.args.levels.now (options_of c.args.options.now)
          (c.args.place.now.indices.items) serves (region c.args.within.now) c.requires.inside;
    }

pub returns-in_err-fetched-clause-fetched : goal.returns-in_err-fetched-clause-fetched
returns-in_err-fetched-clause-fetched g c =
    let p = err_from_is_err_and c.from_residual.result c.from_residual.ensures.1 in
    let array = c.args.self.now in
    let chunk = c.args.place.now.indices.items in
    let within = region c.args.within.now in
    let asked = c.in_err-fetched.ensures.fetches.asked in
    let serves =
    lent_serves array c.chain-chain.result.now c.args.levels.now chunk c.chain-chain.ensures c.requires.levels in
    let inside = within_level array c.chain-chain.result.now c.args.levels.now (options_of c.args.options.now) chunk
    serves within c.requires.inside in
    rw (p.1, p.2)
    (part_failed array c.chain-chain.result.now c.args.levels.now (options_of c.args.options.now) chunk serves
    within inside c.args.place.now.key (g.S.Store.shown c.args.store.now) (g.S.Store.shown c.fetch_region.new.store) _
    c.requires.place.key
    (record {
      same = asked.same;
      asks = asked_at_most Fetched _ _ _ asked.asks;
      puts = g.met.S.Store.kept_puts
          c.args.store.now c.fetch_region.new.store c.fetch_region.ensures.kept;
      later = asked.later;
    })
    c.in_err-fetched.ensures.fetches.alike asked.why)

pub returns-clause-fetched : goal.returns-clause-fetched
returns-clause-fetched g c =
    let array = c.args.self.now in
    let chunk = c.args.place.now.indices.items in
    let within = region c.args.within.now in
    let options = options_of c.args.options.now in
    let before = g.S.Store.shown c.args.store.now in
    let fetches = c.in_ok-fetched.ensures.fetches in
    let serves =
    lent_serves array c.chain-chain.result.now c.args.levels.now chunk c.chain-chain.ensures c.requires.levels in
    let inside =
    within_level array c.chain-chain.result.now c.args.levels.now options chunk serves within c.requires.inside in
    let found = is_found array c.chain-chain.result.now c.args.levels.now options chunk serves within inside
    (before.content c.args.place.now.key) fetches.asked.given fetches.asked.decodes in (
      record {
        same = fetches.asked.same;
        puts = g.met.S.Store.kept_puts c.args.store.now c.fetch_region.new.store
            c.fetch_region.ensures.kept;
        later = fetches.asked.later;
      },
      fetched_part array c.chain-chain.result.now c.args.levels.now options chunk serves c.requires.place.is_chunk
          within c.in_ok-fetched.fetched c.args.place.now.key before c.requires.place.key c.requires.inside found
          fetches.valid fetches.short fetches.elements,
    )

pub returns-clause-paid : goal.returns-clause-paid
returns-clause-paid g c =
    let array = c.args.self.now in
    let chunk = c.args.place.now.indices.items in
    let within = region c.args.within.now in
    let options = options_of c.args.options.now in
    let asked = c.in_ok-fetched.ensures.fetches.asked in
    let serves =
    lent_serves array c.chain-chain.result.now c.args.levels.now chunk c.chain-chain.ensures c.requires.levels in
    let inside =
    within_level array c.chain-chain.result.now c.args.levels.now options chunk serves within c.requires.inside in
    record {
      asks = asked.asks;
      taken = box_takes array c.chain-chain.result.now c.args.levels.now options chunk serves within inside
          c.args.place.now.key (g.S.Store.shown c.args.store.now) (g.S.Store.shown c.fetch_region.new.store)
          c.requires.place.key
          asked.given asked.decodes asked.taken;
    }
