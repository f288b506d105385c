use Rattle.std.proofs.Common.{[], ◌∷◌, map, ap, subst, ◌∙◌, ◌<◌}
use Rattle.std.specs.List.{range_with_len}
use Rattle.std.proofs.lemmas.List.{map-append}
use Rattle.zarrs_codec_traits.specs.Prelude.{region, CoversShape}
use Rattle.zarr_rechunk.specs.Bands.{band, first_length}
use Rattle.zarr_rechunk.proofs.SpanLaws.{first_chunk, more_bands}
use Rattle.zarr_rechunk.proofs.bands.bands_along.Goals as goal

pub band_of-requires : goal.band_of-requires
band_of-requires g c =
    let grid = g.G.ChunkGridTraits.grid c.args.grid.now in
    let end = c.first_of-first-end.ensures in
    let counts = c.grid_shape.ensures in
    first_chunk c.args.extent c.args.shape.now grid c.loop-first.first
    (subst (λ s. CoversShape s grid) c.requires.over (g.met.G.ChunkGridTraits.covers c.args.grid.now)) c.requires.some
    (subst (λ n. c.loop-first.first < n) (end ∙ ap first_length counts) c.loop-first-test.true)

pub loop-first-preserved : goal.loop-first-preserved
loop-first-preserved g c =
    let grid = g.G.ChunkGridTraits.grid c.args.grid.now in
    let f = band grid c.args.extent c.args.shape.now in
    let count = first_length grid.grid_shape in
    more_bands f c.loop-first.first count (map region c.loop-first.list.items) (map region c.push.new.self.items)
    (map f (range_with_len 0 count)) (region c.in_ok-band.band)
    (subst (λ n. c.loop-first.first < n) (c.first_of-first-end.ensures ∙ ap first_length c.grid_shape.ensures)
    c.loop-first-test.true)
    (ap (map region) c.in_ok-push.ensures.items ∙ map-append region c.loop-first.list.items (c.in_ok-band.band ∷ []))
    c.in_ok-band.ensures c.loop-first.invariant
