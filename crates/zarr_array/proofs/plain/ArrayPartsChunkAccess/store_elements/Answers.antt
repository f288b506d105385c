use Rattle.std.proofs.Common.{IsSome, sym, subst, refl}
use Rattle.zarrs_codec_traits.specs.Prelude.{raw_of, options_of}
use Rattle.zarr_array.specs.Fetch.{chunk_list}
use Rattle.zarr_array.specs.Plain.{plain_access}
use Rattle.zarr_array.proofs.ChunkLaws.{lent_serves, on_ok, on_err, puts_as, may_put_as, taken_elements}
use Rattle.zarr_array.proofs.plain.ArrayPartsChunkAccess.store_elements.Goals as goal

pub put-requires : goal.put-requires
put-requires g c =
    let array = c.args.self.now in
    let chunk = c.args.place.now.indices.items in
    let serves =
    lent_serves array c.chain-chain.result.now c.args.levels.now chunk c.chain-chain.ensures c.requires.levels in
    record {
      serves = serves.serves;
      takes = serves.takes;
      means = subst IsSome (sym (taken_elements array c.chain-chain.result.now c.args.levels.now
          (options_of c.args.options.now) chunk serves (raw_of c.args.elements) c.requires.mean)) refl;
      short = c.requires.mean.short;
    }

pub returns : goal.returns
returns g c =
    let array = c.args.self.now in
    let chunk = c.args.place.now.indices.items in
    let options = options_of c.args.options.now in
    let list = chunk_list (plain_access array) chunk (raw_of c.args.elements) in
    let serves =
    lent_serves array c.chain-chain.result.now c.args.levels.now chunk c.chain-chain.ensures c.requires.levels in
    let taken = taken_elements array c.chain-chain.result.now c.args.levels.now options chunk serves
    (raw_of c.args.elements) c.requires.mean in
    record {
      ok = on_ok c.put.result (puts_as array c.chain-chain.result.now c.args.levels.now options chunk serves list
          (g.S.Store.shown c.args.store.now).content (g.S.Store.shown c.put.new.store).content c.args.place.now.key)
          (c.put.ensures.done list taken);
      failed =
          on_err c.put.result (may_put_as array c.chain-chain.result.now c.args.levels.now options chunk serves list
          (g.S.Store.shown c.args.store.now).content (g.S.Store.shown c.put.new.store).content c.args.place.now.key)
          (c.put.ensures.cut list taken);
      memory = c.put.ensures.unchanged;
      puts = c.put.ensures.puts;
      asks = c.put.ensures.asks;
      taken = c.put.ensures.taken;
      plain = c.put.ensures.plain;
      cause = c.put.ensures.cause;
    }
