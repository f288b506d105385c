use Rattle.std.proofs.Common.{◌≡◌, ◌∙◌, true, Some, IfOk, sym, ap, subst}
use Rattle.zarrs_codec_traits.specs.Prelude.{Level, ends_within, region as region_of_subset, raw_of, options_of}
use Rattle.zarrs_codec_traits.specs.Prelude.{list_at, at_box, select}
use Rattle.zarr_chunks.specs.Fetch as stored
use Rattle.zarr_array_open.specs.Codecs.{array_meaning, list_meaning, bytes_meaning}
use Rattle.zarr_array_open.specs.ChunkLevels.{chunk_shape}
use Rattle.zarr_array.specs.OpenArray.{described_array}
use Rattle.zarr_promises.proofs.ChunkLaws.{held_serves, content_is}
use Rattle.zarr_promises.proofs.chunk.region_of_chunk.Goals as goal

pub partial_decode-result-requires : goal.partial_decode-result-requires
partial_decode-result-requires g c =
    let serves = held_serves c.args.array.now.parts (chunk_shape (described_array c.args.array.now) c.args.chunk.now)
    c.in_ok-chain.chain c.from_parts-handle.result.held.chain c.in_ok-levels.levels
    c.from_parts-handle.result.held.levels c.from_parts-handle.ensures.parts.chain
    c.from_parts-handle.ensures.parts.levels c.in_ok-levels.ensures in
    record {
      serves = serves.serves;
      inside = subst (λ (l : Level). ends_within (region_of_subset c.args.region.now) l.shape ≡ true) (sym serves.level)
          c.requires.inside;
    }

pub returns-clause-elements : goal.returns-clause-elements
returns-clause-elements g c = λ list its_key has.
    let handle = c.from_parts-handle.result in
    let serves = held_serves c.args.array.now.parts (chunk_shape (described_array c.args.array.now) c.args.chunk.now)
    c.in_ok-chain.chain c.from_parts-handle.result.held.chain c.in_ok-levels.levels
    c.from_parts-handle.result.held.levels c.from_parts-handle.ensures.parts.chain
    c.from_parts-handle.ensures.parts.levels c.in_ok-levels.ensures in
    let under = options_of c.args.options.now in
    subst (λ (l : Level). IfOk c.partial_decode-result.result (λ v. list_at (at_box (region_of_subset c.args.region.now)
    l) (raw_of v) ≡ Some (select l.shape (region_of_subset c.args.region.now) list)))
    serves.level
    (c.partial_decode-result.ensures.reads.elements list
    (ap (λ s. stored.chain_content array_meaning list_meaning bytes_meaning handle.held.chain handle.held.levels under
    ((g.S.Store.shown s).content handle.held.key)) c.from_parts-handle.ensures.value
    ∙
    content_is c.args.array.now.parts handle.held.chain handle.held.levels under c.args.chunk.now serves handle.held.key
    (g.S.Store.shown c.args.store.now).content list (c.from_parts-handle.ensures.parts.key ∙ its_key) has))
