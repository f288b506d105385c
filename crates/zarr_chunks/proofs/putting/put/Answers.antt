use Rattle.std.proofs.Common.{rules}
use Rattle.zarr_codec_chain.specs.Prelude.{options_of, first_level, decoded}
use Rattle.zarr_chunks.specs.Put.{is_list_dropped}
use Rattle.zarr_chunks.proofs.PutLaws.{set_puts, set_may_put}
use Rattle.zarr_chunks.proofs.putting.put.Goals as goal

pub returns-in-Ok : goal.returns-in-Ok
returns-in-Ok g c =
    let decode = decoded g.A.ArrayToArrayCodecTraits.meaning g.B.ArrayToBytesCodecTraits.meaning
    g.C.BytesToBytesCodecTraits.meaning c.args.chain.now c.args.levels.now in
    let drops = is_list_dropped (options_of c.args.options.now) (first_level c.args.levels.now) in
    let before = (g.S.Store.shown c.args.store.now).content in
    let after = (g.S.Store.shown c.set.new.self).content in
    record {
      done = λ list means. set_puts decode c.is_left_out.result (drops list) list c.in-Ok.value.items
          (c.is_left_out.ensures list means) c.if-is_left_out.false (c.in-Ok.ensures.value list means)
          before after c.args.key.now c.set.result (rw c.deref.ensures.value at c.set.ensures.ok);
      cut = λ list means. set_may_put decode c.is_left_out.result (drops list) list c.in-Ok.value.items
          (c.is_left_out.ensures list means) c.if-is_left_out.false (c.in-Ok.ensures.value list means)
          before after c.args.key.now c.set.result (rw c.deref.ensures.value at c.set.ensures.failed);
      unchanged = search rules;
      plain = search rules;
      cause = search rules;
      puts = search rules;
      asks = search rules;
      taken = search rules;
    }

pub only_memory-requires : goal.only_memory-requires
only_memory-requires g c = c.in-Err.ensures.memory c.requires.means c.requires.short c.requires.takes
