use Rattle.std.proofs.Common.{◌∙◌, ap, sym}
use Rattle.zarr_model.specs.Prelude.{count_of, is_too_large, sums_fit}
use Rattle.zarr_basics.specs.Axes.{lengths_of}
use Rattle.zarr_basics.specs.Lengths.{nonzeros}
use Rattle.zarr_basics.specs.LimitTests.{are_some}
use Rattle.zarr_basics.proofs.LargeChunks.{no_chunks, past_end, all_within}
use Rattle.zarr_basics.proofs.boundary_grid.BoundaryGrid.has_large_chunk.Goals as goal

pub returns-then-not-are_some : goal.returns-then-not-are_some
returns-then-not-are_some c =
    let grid = c.args.self.now in
    sym (no_chunks grid.axes.items c.args.size
    (ap are_some (sym (c.deref.ensures.value ∙ grid.counts)) ∙ (sym c.are_some.ensures ∙ c.if-not-are_some.true)))

pub returns-then-not-ends_fit : goal.returns-then-not-ends_fit
returns-then-not-ends_fit c =
    let grid = c.args.self.now in
    sym (past_end grid.axes.items c.args.size
    (ap are_some (sym (c.deref.ensures.value ∙ grid.counts)) ∙ (sym c.are_some.ensures ∙ c.if-not-are_some.false))
    (ap (λ axes. sums_fit (lengths_of axes)) (sym c.deref-2.ensures.value)
    ∙ (sym c.ends_fit.ensures ∙ c.if-not-ends_fit.true)))

pub returns : goal.returns
returns c =
    let grid = c.args.self.now in
    c.is_too_large.ensures
    ∙ (ap (λ lengths. is_too_large c.args.size (count_of lengths)) (ap nonzeros c.deref-3.ensures.value ∙ grid.most)
    ∙ sym (all_within grid.axes.items c.args.size
    (ap are_some (sym (c.deref.ensures.value ∙ grid.counts)) ∙ (sym c.are_some.ensures ∙ c.if-not-are_some.false))
    (ap (λ axes. sums_fit (lengths_of axes)) (sym c.deref-2.ensures.value)
    ∙ (sym c.ends_fit.ensures ∙ c.if-not-ends_fit.false))))
