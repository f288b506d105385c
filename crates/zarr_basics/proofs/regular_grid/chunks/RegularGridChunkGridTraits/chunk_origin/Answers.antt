use Rattle.std.proofs.Common.{rules, ◌≡◌, true, Some, None, ap, sym, ◌∙◌, arith}
use Rattle.std.proofs.lemmas.Bool.{cond-true}
use Rattle.zarr_model.specs.Prelude.{starts, whole, contains}
use Rattle.zarr_basics.specs.GridOf.{grid_of_regular}
use Rattle.zarr_basics.specs.RegularGrid.{products}
use Rattle.zarr_basics.proofs.RegularFacts.{origin_is}
use Rattle.zarr_basics.proofs.regular_grid.chunks.RegularGridChunkGridTraits.chunk_origin.Goals as goal

pub returns : goal.returns
returns c =
    let grid = c.args.self.now in
    let chunk = c.args.chunk_indices.now in
    let inside : contains (whole (grid_of_regular grid).grid_shape) chunk ≡ true = sym (c.are_below.ensures
    ∙ ap (λ s. contains (whole s) chunk) (c.deref.ensures.value ∙ grid.counts)) ∙ c.if-not-are_below.false in
    let origin =
    origin_is grid.array_shape.items grid.chunk_shape.items chunk grid.rank (λ k h. search rules) inside in (
      omega (arith, c.in_ok-expect_rank.ensures.same, c.as_slice-shape.ensures.len),
      ap Some (c.in_ok-origin.ensures ∙ (ap (products chunk) c.deref-2.ensures.value ∙ origin))
          ∙ sym (cond-true (contains (whole (grid_of_regular grid).grid_shape) chunk)
          (Some (starts ((grid_of_regular grid).chunk_box chunk))) None inside),
    )
