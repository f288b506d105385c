use Rattle.std.proofs.Common.{rules, Ok, IsSome, subst}
use Rattle.zarr_codec_chain.specs.Prelude.{region as box_of, raw_of, options_of, list_at, at_box, first_level}
use Rattle.zarr_codec_chain.specs.Prelude.{GivesPart}
use Rattle.zarr_codec_chain.proofs.ChainLaws.{some_of}
use Rattle.zarr_chunks.specs.Regions.{GivesRegion, fetched_list}
use Rattle.zarr_chunks.specs.Seen.{chain_seen}
use Rattle.zarr_chunks.proofs.SeenLaws.{cut_asks, cut_alike}
use Rattle.zarr_chunks.proofs.ReadLaws.{ok_half, ok_there}
use Rattle.zarr_chunks.proofs.reading.read.Goals as goal

pub returns-in-Ok-Chunk-clause-reads : goal.returns-in-Ok-Chunk-clause-reads
returns-in-Ok-Chunk-clause-reads g c =
    let seen = chain_seen g.A.ArrayCodecTraits g.A.ArrayToArrayCodecTraits g.B.ArrayCodecTraits
    g.B.ArrayToBytesCodecTraits g.C.BytesToBytesCodecTraits c.args.chain.now c.args.levels.now in
    let under = options_of c.args.options.now in
    let level = first_level c.args.levels.now in
    let box = box_of c.args.region.now in
    let before = g.S.Store.shown c.args.store.now in
    let after = g.S.Store.shown c.fetch_region.new.store in
    let fetched = c.in-Ok-Chunk.ensures.fetches in
    let (list, here) =
    some_of _ (subst (λ f. IsSome (fetched_list level box f)) c.in-Ok-Chunk.field-0-is fetched.valid) in
    let cut = c.part_of.ensures.value list here in
    record {
      elements = λ all is. ok_half _ _ c.part_of.result (c.part_of.ensures.value all
          (subst (GivesRegion level box all) c.in-Ok-Chunk.field-0-is (fetched.elements all is)));
      alike = cut_alike seen under (seen.request box) (before.content c.args.key.now) before.faults after.faults _
          (GivesRegion level box) (GivesPart level box) c.part_of.result
          (λ all gives. c.part_of.ensures.value all (subst (GivesRegion level box all) c.in-Ok-Chunk.field-0-is gives))
          fetched.alike;
      valid = ok_there (λ v. list_at (at_box box level) (raw_of v)) _ _ c.part_of.result cut;
      short = search rules;
      asked =
          cut_asks seen under box (seen.request box) c.args.key.now before after _ _ c.part_of.result cut fetched.asked;
    }

pub returns-in-Ok-Region-clause-reads : goal.returns-in-Ok-Region-clause-reads
returns-in-Ok-Region-clause-reads g c =
    let seen = chain_seen g.A.ArrayCodecTraits g.A.ArrayToArrayCodecTraits g.B.ArrayCodecTraits
    g.B.ArrayToBytesCodecTraits g.C.BytesToBytesCodecTraits c.args.chain.now c.args.levels.now in
    let under = options_of c.args.options.now in
    let level = first_level c.args.levels.now in
    let box = box_of c.args.region.now in
    let before = g.S.Store.shown c.args.store.now in
    let after = g.S.Store.shown c.fetch_region.new.store in
    let fetched = c.in-Ok-Region.ensures.fetches in
    record {
      elements = λ all is. subst (GivesRegion level box all) c.in-Ok-Region.field-0-is (fetched.elements all is);
      alike = cut_alike seen under (seen.request box) (before.content c.args.key.now) before.faults after.faults _
          (GivesRegion level box) (GivesPart level box) (Ok c.in-Ok-Region.part)
          (λ all gives. subst (GivesRegion level box all) c.in-Ok-Region.field-0-is gives) fetched.alike;
      valid = search rules;
      short = search rules;
      asked = search rules;
    }
