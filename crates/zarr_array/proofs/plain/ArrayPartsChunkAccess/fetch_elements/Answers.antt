use Rattle.std.proofs.Common.{IsSome, inr, refl, sym, subst}
use Rattle.std.proofs.lemmas.Result.{err_from_is_err_and}
use Rattle.zarrs_codec_traits.specs.Prelude.{raw_of, options_of}
use Rattle.zarr_array.proofs.ChunkLaws.{lent_serves, fetched_elements, given_mean}
use Rattle.zarr_array.proofs.FetchSteps.{fetch_failed}
use Rattle.zarr_array.proofs.RegionTakenLaws.{whole_takes}
use Rattle.zarr_array.proofs.plain.ArrayPartsChunkAccess.fetch_elements.Goals as goal

pub fetch-requires : goal.fetch-requires
fetch-requires g c =
    let array = c.args.self.now in
    let serves = lent_serves array c.chain-chain.result.now c.args.levels.now
    (c.args.place.now.indices.items) c.chain-chain.ensures c.requires.levels in
    serves.serves

pub returns-in_err-bytes-clause-fetched : goal.returns-in_err-bytes-clause-fetched
returns-in_err-bytes-clause-fetched g c =
    let p = err_from_is_err_and c.from_residual.result c.from_residual.ensures.1 in
    let array = c.args.self.now in
    let serves = lent_serves array c.chain-chain.result.now c.args.levels.now
    (c.args.place.now.indices.items) c.chain-chain.ensures c.requires.levels in
    rw (p.1, p.2) (fetch_failed array c.chain-chain.result.now c.args.levels.now (options_of c.args.options.now)
    (c.args.place.now.indices.items) serves
    c.args.place.now.key (g.S.Store.shown c.args.store.now) (g.S.Store.shown c.fetch.new.store) _ c.requires.place.key
    (record {
      same = c.in_err-bytes.ensures.fetches.same;
      asks = inr c.in_err-bytes.ensures.fetches.asked.asks;
      puts = g.met.S.Store.kept_puts c.args.store.now c.fetch.new.store c.fetch.ensures.kept;
      later = c.in_err-bytes.ensures.fetches.asked.later;
    }) c.in_err-bytes.ensures.fetches.why)

pub returns-clause-fetched : goal.returns-clause-fetched
returns-clause-fetched g c =
    let array = c.args.self.now in
    let chunk = c.args.place.now.indices.items in
    let options = options_of c.args.options.now in
    let fetches = c.in_ok-bytes.ensures.fetches in
    let serves =
    lent_serves array c.chain-chain.result.now c.args.levels.now chunk c.chain-chain.ensures c.requires.levels in (
      record {
        same = fetches.same;
        puts = g.met.S.Store.kept_puts c.args.store.now c.fetch.new.store
            c.fetch.ensures.kept;
        later = fetches.asked.later;
      },
      record {
        mean = given_mean array c.chain-chain.result.now c.args.levels.now options chunk serves
            (raw_of c.in_ok-bytes.bytes) _ fetches.value fetches.short;
        elements = fetched_elements array c.chain-chain.result.now c.args.levels.now options chunk serves
            (raw_of c.in_ok-bytes.bytes) c.args.place.now.key (g.S.Store.shown c.args.store.now) c.requires.place.key
            fetches.value;
      },
    )

pub returns-clause-paid : goal.returns-clause-paid
returns-clause-paid g c =
    let array = c.args.self.now in
    let chunk = c.args.place.now.indices.items in
    let options = options_of c.args.options.now in
    let fetches = c.in_ok-bytes.ensures.fetches in
    let serves =
    lent_serves array c.chain-chain.result.now c.args.levels.now chunk c.chain-chain.ensures c.requires.levels in
    record {
      asks = fetches.asked.asks;
      taken = whole_takes array options chunk c.args.place.now.key (g.S.Store.shown c.args.store.now)
          (g.S.Store.shown c.fetch.new.store) c.requires.place.key
          (subst IsSome (sym (fetched_elements array c.chain-chain.result.now c.args.levels.now options chunk serves
          (raw_of c.in_ok-bytes.bytes) c.args.place.now.key (g.S.Store.shown c.args.store.now) c.requires.place.key
          fetches.value)) refl) fetches.asked.taken;
    }
