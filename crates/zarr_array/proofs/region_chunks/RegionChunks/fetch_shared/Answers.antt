use Rattle.std.proofs.Common.{◌≡◌, length, sym, ap, ◌∙◌}
use Rattle.std.proofs.lemmas.Result.{err_from_is_err_and}
use Rattle.zarrs_codec_traits.specs.Prelude.{Region, part_of_box, region, options_of}
use Rattle.zarr_array.specs.Access.{described}
use Rattle.zarr_array.specs.Asked.{part_asked}
use Rattle.zarr_array.specs.RegionChunks.{asked_of}
use Rattle.zarr_array.proofs.AskedLaws.{shared_asked}
use Rattle.zarr_array.proofs.PaysLaws.{pays_shared}
use Rattle.zarr_array.proofs.SharedSteps.{shared_lies, shared_has, shared_many, held_shared}
use Rattle.zarr_array.proofs.StarvedLaws.{starved_before, asked_as}
use Rattle.zarr_array.proofs.region_chunks.RegionChunks.fetch_shared.Goals as goal

-- the part in a chunk's box, by the name of its place
lies_in : (over own box within : Region) → own ≡ box → within ≡ part_of_box over own → within ≡ part_of_box over box
lies_in over own box within own_is is = is ∙ ap (part_of_box over) own_is

pub part_of_box-requires : goal.part_of_box-requires
part_of_box-requires g c = c.requires.place.rank ∙ ap length (sym c.requires.place.at.lies)

pub fetch_part-requires-clause-inside : goal.fetch_part-requires-clause-inside
fetch_part-requires-clause-inside g c =
    let array = g.C.ChunkAccess.seen c.args.self.now.array.now in
    let over = region c.args.self.now.subset.now in
    let box = (described array).grid.chunk_box c.args.place.now.indices.items in
    let within = region c.in_ok-within.within in
    shared_lies over box within (lies_in over (region c.args.place.now.subset) box within c.requires.place.at.lies
    c.in_ok-within.ensures) c.requires.place.shares

pub fetch_part-requires-clause-some : goal.fetch_part-requires-clause-some
fetch_part-requires-clause-some g c =
    let array = g.C.ChunkAccess.seen c.args.self.now.array.now in
    let over = region c.args.self.now.subset.now in
    let box = (described array).grid.chunk_box c.args.place.now.indices.items in
    let within = region c.in_ok-within.within in
    shared_has over box within (lies_in over (region c.args.place.now.subset) box within c.requires.place.at.lies
    c.in_ok-within.ensures) c.requires.place.shares

pub returns-clause-fetched : goal.returns-clause-fetched
returns-clause-fetched g c =
    let array = g.C.ChunkAccess.seen c.args.self.now.array.now in
    let over = region c.args.self.now.subset.now in
    let box = (described array).grid.chunk_box c.args.place.now.indices.items in
    let within = region c.in_ok-within.within in (
      c.in_ok-fetched.ensures.fetched.0,
      held_shared array (options_of c.args.options.now) over within c.args.place.now.indices.items
          (g.S.Store.shown c.args.store.now) c.in_ok-fetched.fetched c.requires.place.rank
          (lies_in over (region c.args.place.now.subset) box within c.requires.place.at.lies c.in_ok-within.ensures)
          c.in_ok-fetched.ensures.fetched.1,
    )

pub returns-clause-paid : goal.returns-clause-paid
returns-clause-paid g c =
    let array = g.C.ChunkAccess.seen c.args.self.now.array.now in
    let over = region c.args.self.now.subset.now in
    let chunk = c.args.place.now.indices.items in
    let box = (described array).grid.chunk_box chunk in
    let within = region c.in_ok-within.within in
    let is = lies_in over (region c.args.place.now.subset) box within c.requires.place.at.lies c.in_ok-within.ensures in
    pays_shared array.costs (described array) (options_of c.args.options.now) over within chunk
    (g.S.Store.shown c.args.store.now) (g.S.Store.shown c.fetch_part.new.store) c.requires.place.rank is
    (shared_many over box within c.requires.place.rank is) c.in_ok-fetched.ensures.paid

pub returns-in_err-within-clause-fetched : goal.returns-in_err-within-clause-fetched
returns-in_err-within-clause-fetched g c =
    let p = err_from_is_err_and c.from_residual.result c.from_residual.ensures.1 in
    let array = g.C.ChunkAccess.seen c.args.self.now.array.now in
    let chunk = c.args.place.now.indices.items in
    let store = g.S.Store.shown c.args.store.now in
    rw (p.1, p.2) (starved_before (asked_of array (region c.args.self.now.subset.now) chunk) array
    (options_of c.args.options.now) chunk store)

pub returns-in_err-fetched-clause-fetched : goal.returns-in_err-fetched-clause-fetched
returns-in_err-fetched-clause-fetched g c =
    let p = err_from_is_err_and c.from_residual-in_err-fetched.result c.from_residual-in_err-fetched.ensures.1 in
    let array = g.C.ChunkAccess.seen c.args.self.now.array.now in
    let over = region c.args.self.now.subset.now in
    let chunk = c.args.place.now.indices.items in
    let box = (described array).grid.chunk_box chunk in
    let within = region c.in_ok-within.within in
    let is = lies_in over (region c.args.place.now.subset) box within c.requires.place.at.lies c.in_ok-within.ensures in
    rw (p.1, p.2)
    (asked_as (part_asked box within) array (options_of c.args.options.now) chunk (asked_of array over chunk)
    (shared_asked (described array) over chunk within is (shared_many over box within c.requires.place.rank is))
    (g.S.Store.shown c.args.store.now) (g.S.Store.shown c.fetch_part.new.store) _ c.in_err-fetched.ensures.fetched)
