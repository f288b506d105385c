use Rattle.std.proofs.Common.{◌≡◌, true, None, subst}
use Rattle.std.proofs.lemmas.Result.{err_from_is_err_and}
use Rattle.zarrs_codec_traits.specs.Prelude.{region, options_of}
use Rattle.zarrs_array_subset.specs.Boxes.{is_within}
use Rattle.zarr_array.specs.Access.{described}
use Rattle.zarr_array.specs.RegionChunks.{asked_of}
use Rattle.zarr_array.proofs.CoverLaws.{none_asked, held_whole, pays_covered}
use Rattle.zarr_array.proofs.StarvedLaws.{asked_as}
use Rattle.zarr_array.proofs.region_chunks.RegionChunks.fetch_covered.Goals as goal

pub returns-clause-fetched : goal.returns-clause-fetched
returns-clause-fetched g c =
    let array = g.C.ChunkAccess.seen c.args.self.now.array.now in
    let over = region c.args.self.now.subset.now in
    let covers = subst (λ box. is_within box over ≡ true) c.requires.place.at.lies c.requires.covered in (
      c.in_ok-bytes.ensures.fetched.0,
      held_whole over c.args.place.now.indices.items array (options_of c.args.options.now)
          (g.S.Store.shown c.args.store.now) c.in_ok-bytes.bytes covers c.in_ok-bytes.ensures.fetched.1,
    )

pub returns-clause-paid : goal.returns-clause-paid
returns-clause-paid g c =
    let array = g.C.ChunkAccess.seen c.args.self.now.array.now in
    let over = region c.args.self.now.subset.now in
    let covers = subst (λ box. is_within box over ≡ true) c.requires.place.at.lies c.requires.covered in
    pays_covered over c.args.place.now.indices.items array.costs (described array) (options_of c.args.options.now)
    (g.S.Store.shown c.args.store.now) (g.S.Store.shown c.fetch_elements.new.store) c.requires.place.rank covers
    c.in_ok-bytes.ensures.paid

pub returns-in_err-bytes-clause-fetched : goal.returns-in_err-bytes-clause-fetched
returns-in_err-bytes-clause-fetched g c =
    let p = err_from_is_err_and c.from_residual.result c.from_residual.ensures.1 in
    let array = g.C.ChunkAccess.seen c.args.self.now.array.now in
    let over = region c.args.self.now.subset.now in
    let chunk = c.args.place.now.indices.items in
    let covers = subst (λ box. is_within box over ≡ true) c.requires.place.at.lies c.requires.covered in
    rw (p.1, p.2)
    (asked_as None array (options_of c.args.options.now) chunk (asked_of array over chunk)
    (none_asked over chunk (described array) covers)
    (g.S.Store.shown c.args.store.now) (g.S.Store.shown c.fetch_elements.new.store) _ c.in_err-bytes.ensures.fetched)
