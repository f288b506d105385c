use Rattle.std.proofs.Common.{◌≡◌, true, ap, sym, ◌∙◌, subst}
use Rattle.zarr_model.specs.Prelude.{whole, contains}
use Rattle.zarrs_chunk_grid.specs.ChunkGrid.{HasElement}
use Rattle.zarr_basics.specs.Axes.{chunks_at}
use Rattle.zarr_basics.specs.BoundaryGrid.{grid_of_boundary}
use Rattle.zarr_basics.proofs.AxisFacts.{chunks_hold}
use Rattle.zarr_basics.proofs.boundary_grid.BoundaryGridChunkGridTraits.chunk_indices.Goals as goal

pub returns-clause-chunk : goal.returns-clause-chunk
returns-clause-chunk c =
    let grid = c.args.self.now in
    let indices = c.args.array_indices.now in
    let inside : contains (whole grid.array_shape.items) indices ≡ true =
    sym (c.are_below.ensures ∙ ap (λ s. contains (whole s) indices) c.deref.ensures.value) ∙ c.if-not-are_below.false in
    subst (HasElement (grid_of_boundary grid) indices)
    (sym (c.in_ok-chunk.ensures ∙ ap (λ axes. chunks_at axes indices) c.deref-2.ensures.value))
    (chunks_hold grid.array_shape.items grid.axes.items indices grid.cut inside)
