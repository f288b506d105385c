use Rattle.zarr_codec_chain.specs.Chain.{bottom_level, first_level}
use Rattle.std.proofs.Common.{rules, ◌≡◌, sym, ap, ◌∙◌, subst, inl, inr, ⊎_elim, refl, ℕ, OnErr, IfErr, option_map}
use Rattle.std.proofs.Common.{IsSome, Option, List}
use Rattle.zarrs_codec_traits.specs.Prelude.{counted, Element, region as box_of, raw_of, options_of, list_at, at_box}
use Rattle.zarr_codec_chain.proofs.LevelLaws.{some-list}
use Rattle.zarr_codec_chain.proofs.ChainLaws.{some_of, err_is}
use Rattle.zarr_chunks.specs.Fetch.{chain_content}
use Rattle.zarr_chunks.specs.Seen.{chain_seen, ChunkTells, PutsOnce}
use Rattle.zarr_chunks.specs.Put.{is_list_dropped}
use Rattle.zarr_chunks.specs.Update.{with_box, MayUpdateChunk}
use Rattle.zarr_chunks.proofs.PutLaws.{may_update}
use Rattle.zarr_chunks.proofs.updating.write.Goals as goal

pub returns-in_err-chunk : goal.returns-in_err-chunk
returns-in_err-chunk g c =
    let chain = c.args.chain.now in
    let levels = c.args.levels.now in
    let level = first_level levels in
    let seen = chain_seen g.A.ArrayCodecTraits g.A.ArrayToArrayCodecTraits g.B.ArrayCodecTraits
    g.B.ArrayToBytesCodecTraits g.C.BytesToBytesCodecTraits chain levels in
    let before = g.S.Store.shown c.args.store.now in
    let after = g.S.Store.shown c.fetch.new.store in
    let wanted = seen.content (options_of c.args.options.now) (before.content c.args.key.now) in
    let (old, was, content) = some-list g.A.ArrayToArrayCodecTraits.meaning g.A.ArrayCodecTraits.unserved
    (bottom_level levels) (list_at level (raw_of c.in_ok-whole.whole)) wanted c.in_ok-whole.ensures.fetches.value in
    let (new, is) =
    some_of (list_at (at_box (box_of c.args.region.now) level) (raw_of c.args.bytes.now)) c.requires.means in
    let memory = c.in_err-chunk.ensures.value old new was is in
    let end = err_is _ _ c.from_residual-in_err-chunk.ensures.1 in
    record {
      done = search rules;
      cut = search rules;
      unchanged = search rules;
      puts = subst (λ r. PutsOnce before.puts after.puts r) (sym end)
          (inl (g.met.S.Store.kept_puts c.args.store.now c.fetch.new.store c.fetch.ensures.kept));
      why = subst (λ r. IfErr r (ChunkTells seen (options_of c.args.options.now) (before.content c.args.key.now)
          before.faults after.faults)) (sym end) (inl (inl memory));
      asked = search rules;
    }

pub returns-in_err-put : goal.returns-in_err-put
returns-in_err-put g c =
    let chain = c.args.chain.now in
    let levels = c.args.levels.now in
    let level = first_level levels in
    let seen = chain_seen g.A.ArrayCodecTraits g.A.ArrayToArrayCodecTraits g.B.ArrayCodecTraits
    g.B.ArrayToBytesCodecTraits g.C.BytesToBytesCodecTraits chain levels in
    let under = options_of c.args.options.now in
    let box = box_of c.args.region.now in
    let before = g.S.Store.shown c.args.store.now in
    let mid = g.S.Store.shown c.fetch.new.store in
    let after = g.S.Store.shown c.put.new.store in
    let wanted = seen.content under (before.content c.args.key.now) in
    let (old, was, content) = some-list g.A.ArrayToArrayCodecTraits.meaning g.A.ArrayCodecTraits.unserved
    (bottom_level levels) (list_at level (raw_of c.in_ok-whole.whole)) wanted c.in_ok-whole.ensures.fetches.value in
    let unput : mid.puts ≡ before.puts =
    g.met.S.Store.kept_puts c.args.store.now c.fetch.new.store c.fetch.ensures.kept in
    let end = err_is _ _ c.from_residual-in_err-put.ensures.1 in
    record {
      done = search rules;
      cut = λ new means.
          subst (λ r. OnErr r (MayUpdateChunk seen.decode (is_list_dropped under level)
          (option_map (with_box level.shape box new) wanted) before.content after.content c.args.key.now)) (sym end)
          (may_update seen.decode (is_list_dropped under level) (with_box level.shape box new) wanted old before.content
          mid.content after.content c.args.key.now content c.in_ok-whole.ensures.fetches.same
          (c.in_err-put.ensures.cut (with_box level.shape box new old)
          (c.in_ok-chunk.ensures.value old new was means)));
      unchanged = search rules;
      puts = subst (λ r. PutsOnce before.puts after.puts r) (sym end) (⊎_elim
          (λ (none : after.puts ≡ mid.puts). inl (none ∙ unput))
          (λ (one : after.puts ≡ counted mid.puts 1). inr (one ∙ ap (λ (n : ℕ). counted n 1) unput))
          c.in_err-put.ensures.puts);
      why = search rules;
      asked = search rules;
    }

pub put-requires : goal.put-requires
put-requires g c =
    let chain = c.args.chain.now in
    let levels = c.args.levels.now in
    let level = first_level levels in
    let wanted = chain_content g.A.ArrayToArrayCodecTraits.meaning g.B.ArrayToBytesCodecTraits.meaning
    g.C.BytesToBytesCodecTraits.meaning chain levels (options_of c.args.options.now)
    ((g.S.Store.shown c.args.store.now).content c.args.key.now) in
    let (old, was, content) = some-list g.A.ArrayToArrayCodecTraits.meaning g.A.ArrayCodecTraits.unserved
    (bottom_level levels) (list_at level (raw_of c.in_ok-whole.whole)) wanted c.in_ok-whole.ensures.fetches.value in
    let (new, is) =
    some_of (list_at (at_box (box_of c.args.region.now) level) (raw_of c.args.bytes.now)) c.requires.means in
    record {
      serves = c.requires.serves;
      takes = c.requires.takes;
      means = subst (λ (o : Option (List Element)). IsSome o) (sym (c.in_ok-chunk.ensures.value old new was is)) refl;
      short = search rules;
    }
