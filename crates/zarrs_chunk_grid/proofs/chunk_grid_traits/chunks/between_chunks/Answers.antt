use Rattle.std.proofs.Common.{map, zip, ap, ap₂, ◌∙◌}
use Rattle.zarr_model.specs.Region.{starts}
use Rattle.zarrs_array_subset.specs.ArraySubset.{region}
use Rattle.zarrs_array_subset.specs.Boxes.{ends, last_indices, region_of_ranges}
use Rattle.zarrs_chunk_grid.proofs.GridIndices.{ranges_between}
use Rattle.zarrs_chunk_grid.proofs.chunk_grid_traits.chunks.between_chunks.Goals as goal

pub returns : goal.returns
returns g c =
    let box = (g.G.ChunkGridTraits.grid c.args.grid.now).chunk_box in
    let chunks = region c.args.chunks.now in
    let first = c.deref-2.ensures.value ∙ (c.in_ok-start.ensures ∙ ap (λ chunk. starts (box chunk)) c.start.ensures) in
    let last = c.deref-3.ensures.value ∙ (c.in_ok-end.ensures.ok
    ∙ ap ends (c.in_ok-box_of.ensures ∙ ap box (c.deref.ensures.value ∙ c.in_ok-last.ensures))) in
    c.in_ok-subset.ensures.ok
    ∙ (ap region_of_ranges (c.deref-4.ensures.value
    ∙ (c.in_ok-ranges.ensures ∙ ap₂ (λ s e. map (λ p. record { start = p.0; end = p.1 }) (zip s e)) first last))
    ∙ ranges_between (starts (box (starts chunks))) (ends (box (last_indices chunks))))
