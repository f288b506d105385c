use Rattle.std.proofs.Common.{map, length, sym, ap, ◌∙◌}
use Rattle.std.proofs.lemmas.List.{length-map}
use Rattle.zarrs_codec_traits.specs.Prelude.{region as region_of, options_of}
use Rattle.zarr_array.specs.OpenArray.{documented, described_array}
use Rattle.zarr_array.proofs.ServedLaws.{described_covers, described_sound}
use Rattle.zarr_rechunk.proofs.BandLaws.{each_product_is_cut}
use Rattle.zarr_rechunk.proofs.ProductLaws.{basic_grids_are_products}
use Rattle.zarr_rechunk.proofs.RechunkLaws.{band_accepted, array_moved, not_moved_array, begun}
use Rattle.zarr_rechunk.proofs.whole.rechunk.Goals as goal

pub move_bands-requires : goal.move_bands-requires
move_bands-requires g c = record {
  alike = c.in-Ok.ensures.may.alike;
  accepted = λ k band here.
      let target = described_array c.args.target.now in
      band_accepted target (each_product_is_cut target.shape target.grid
      (basic_grids_are_products c.args.target.now.parts.grid)) c.in-Ok.ensures.may.none_large
      (map region_of c.deref.result.now) (ap (map region_of) c.deref.ensures.value ∙ c.in-Ok.ensures.bands) k band here;
}

pub returns-in-Ok-clause-moved : goal.returns-in-Ok-clause-moved
returns-in-Ok-clause-moved g c =
    let options = options_of c.args.options.now in
    array_moved (described_array c.args.source.now) (described_array c.args.target.now) options
    (map region_of c.deref.result.now) (length c.deref.result.now)
    (g.S.Store.shown c.args.from.now) (g.S.Store.shown c.move_bands.new.from) (g.T.Store.shown c.args.to.now)
    (g.T.Store.shown c.move_bands.new.to)
    (sym (length-map c.deref.result.now region_of)) (basic_grids_are_products c.args.target.now.parts.grid)
    (ap (map region_of) c.deref.ensures.value ∙ c.in-Ok.ensures.bands)
    c.move_bands.result (described_covers c.args.target.now.parts) (described_sound c.args.target.now.parts options)
    c.in-Ok.ensures.may c.move_bands.ensures.moved

pub returns-in-Ok-clause-failed : goal.returns-in-Ok-clause-failed
returns-in-Ok-clause-failed g c =
    not_moved_array (documented c.args.source.now) (documented c.args.target.now) (options_of c.args.options.now)
    (map region_of c.deref.result.now)
    (g.S.Store.shown c.args.from.now) (g.S.Store.shown c.move_bands.new.from) (g.T.Store.shown c.args.to.now)
    (g.T.Store.shown c.move_bands.new.to)
    (ap (map region_of) c.deref.ensures.value ∙ c.in-Ok.ensures.bands) c.move_bands.result c.in-Ok.ensures.may
    c.move_bands.ensures.fails

pub returns-in-Ok-clause-unbegun : goal.returns-in-Ok-clause-unbegun
returns-in-Ok-clause-unbegun g c =
    begun _ (documented c.args.source.now) (documented c.args.target.now) (options_of c.args.options.now)
    (map region_of c.deref.result.now)
    (g.S.Store.shown c.args.from.now) (g.S.Store.shown c.move_bands.new.from) (g.T.Store.shown c.args.to.now)
    (g.T.Store.shown c.move_bands.new.to)
    c.move_bands.result c.move_bands.ensures.fails
