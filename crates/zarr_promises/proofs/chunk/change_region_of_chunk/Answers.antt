use Rattle.std.proofs.Common.{rules, ◌≡◌, true, IsSome, sym, subst}
use Rattle.zarrs_codec_traits.specs.Prelude.{Level, ends_within, region as region_of_subset, raw_of, options_of}
use Rattle.zarrs_codec_traits.specs.Prelude.{list_at, at_box}
use Rattle.zarr_array_open.specs.ChunkLevels.{chunk_shape}
use Rattle.zarr_array.specs.OpenArray.{described_array}
use Rattle.zarr_promises.proofs.ChunkLaws.{held_serves, changed_as}
use Rattle.zarr_promises.proofs.chunk.change_region_of_chunk.Goals as goal

pub partial_encode-result-requires : goal.partial_encode-result-requires
partial_encode-result-requires g c =
    let serves = held_serves c.args.array.now.parts (chunk_shape (described_array c.args.array.now) c.args.chunk.now)
    c.in_ok-chain.chain c.from_parts-handle.result.held.chain c.in_ok-levels.levels
    c.from_parts-handle.result.held.levels c.from_parts-handle.ensures.parts.chain
    c.from_parts-handle.ensures.parts.levels c.in_ok-levels.ensures in
    record {
      serves = serves.serves;
      takes = serves.takes;
      inside = subst (λ (l : Level). ends_within (region_of_subset c.args.region.now) l.shape ≡ true) (sym serves.level)
          c.requires.inside;
      means = subst (λ (l : Level). IsSome (list_at (at_box (region_of_subset c.args.region.now) l)
          (raw_of c.args.bytes.now))) (sym serves.level) c.requires.means;
      short = c.requires.short;
    }

pub returns-clause-replaced : goal.returns-clause-replaced
returns-clause-replaced g c = λ old new its_key has means.
    let handle = c.from_parts-handle.result in
    let serves = held_serves c.args.array.now.parts (chunk_shape (described_array c.args.array.now) c.args.chunk.now)
    c.in_ok-chain.chain c.from_parts-handle.result.held.chain c.in_ok-levels.levels
    c.from_parts-handle.result.held.levels c.from_parts-handle.ensures.parts.chain
    c.from_parts-handle.ensures.parts.levels c.in_ok-levels.ensures in
    changed_as c.args.array.now.parts handle.held.chain handle.held.levels (options_of c.args.options.now)
    c.args.chunk.now serves
    (region_of_subset c.args.region.now) (raw_of c.args.bytes.now) (g.S.Store.shown c.args.store.now).content
    (g.S.Store.shown c.partial_encode-result.new.self.held.storage.now).content c.partial_encode-result.result
    handle.held.key c.args.key old new c.from_parts-handle.ensures.parts.key its_key has means
    (rw c.from_parts-handle.ensures.value at c.partial_encode-result.ensures.writes.done) _ (search rules)
