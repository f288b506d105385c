use Rattle.std.proofs.Common.{sym, ap, ap₂, ◌∙◌}
use Rattle.zarr_model.specs.Region.{count_of}
use Rattle.zarr_model.specs.Command.{is_too_large}
use Rattle.zarr_basics.specs.Lengths.{nonzeros}
use Rattle.zarr_basics.specs.LimitTests.{are_some}
use Rattle.zarr_basics.specs.RegularEnds.{chunk_ends_fit}
use Rattle.zarr_basics.proofs.RegularLimits.{no_chunks, past_end, all_within}
use Rattle.zarr_basics.proofs.regular_grid.RegularGrid.has_large_chunk.Goals as goal

pub returns-then-not-are_some : goal.returns-then-not-are_some
returns-then-not-are_some c =
    let grid = c.args.self.now in
    sym (no_chunks grid.array_shape.items grid.chunk_shape.items grid.rank c.args.size
    (ap are_some (sym (c.deref.ensures.value ∙ grid.counts)) ∙ (sym c.are_some.ensures ∙ c.if-not-are_some.true)))

pub returns-then-not-ends_fit : goal.returns-then-not-ends_fit
returns-then-not-ends_fit c =
    let grid = c.args.self.now in
    sym (past_end grid.array_shape.items grid.chunk_shape.items grid.rank c.args.size
    (ap are_some (sym (c.deref.ensures.value ∙ grid.counts)) ∙ (sym c.are_some.ensures ∙ c.if-not-are_some.false))
    (ap₂ (λ n p. chunk_ends_fit n (nonzeros p)) (sym (c.deref-2.ensures.value ∙ grid.counts))
    (sym c.deref-3.ensures.value) ∙ (sym c.ends_fit.ensures ∙ c.if-not-ends_fit.true)))

pub returns : goal.returns
returns c =
    let grid = c.args.self.now in
    c.is_too_large.ensures ∙ (ap (λ p. is_too_large c.args.size (count_of (nonzeros p))) c.deref-4.ensures.value
    ∙ sym (all_within grid.array_shape.items grid.chunk_shape.items grid.rank c.args.size
    (ap are_some (sym (c.deref.ensures.value ∙ grid.counts)) ∙ (sym c.are_some.ensures ∙ c.if-not-are_some.false))
    (ap₂ (λ n p. chunk_ends_fit n (nonzeros p)) (sym (c.deref-2.ensures.value ∙ grid.counts))
    (sym c.deref-3.ensures.value) ∙ (sym c.ends_fit.ensures ∙ c.if-not-ends_fit.false))))
