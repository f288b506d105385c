use Rattle.std.proofs.Common.{◌≡◌, true≢false, ap, ap₂, sym, ◌∙◌}
use Rattle.zarr_model.specs.Prelude.{starts, sizes}
use Rattle.zarrs_array_subset.specs.ArraySubset.{region}
use Rattle.zarrs_array_subset.specs.Boxes.{region_through, is_rising_inc}
use Rattle.zarr_basics.specs.RegularGrid.{quotients, lasts}
use Rattle.zarr_basics.proofs.RegularLaws.{chunks_are}
use Rattle.zarr_basics.proofs.regular_grid.chunks.chunks_of.Goals as goal

pub unreachable-requires : goal.unreachable-requires
unreachable-requires c =
    let r = region c.args.array_subset.now in
    let first : c.in_ok-first.first.items ≡ quotients (starts r) c.args.lengths.now =
    c.in_ok-first.ensures ∙ ap (λ x. quotients x c.args.lengths.now) c.start.ensures in
    let last : c.in_ok-last.last.items ≡ lasts (starts r) (sizes r) c.args.lengths.now =
    c.in_ok-last.ensures ∙ ap₂ (λ s n. lasts s n c.args.lengths.now) c.start-2.ensures c.shape.ensures.value in
    true≢false (sym (ap₂ is_rising_inc first last
    ∙ (chunks_are r c.args.lengths.now c.shape.ensures.fits c.requires.rank c.requires.some).1)
    ∙ c.in-Err.ensures.refused.1)

pub returns : goal.returns
returns c =
    let r = region c.args.array_subset.now in
    let first : c.in_ok-first.first.items ≡ quotients (starts r) c.args.lengths.now =
    c.in_ok-first.ensures ∙ ap (λ x. quotients x c.args.lengths.now) c.start.ensures in
    let last : c.in_ok-last.last.items ≡ lasts (starts r) (sizes r) c.args.lengths.now =
    c.in_ok-last.ensures ∙ ap₂ (λ s n. lasts s n c.args.lengths.now) c.start-2.ensures c.shape.ensures.value in
    c.in-Ok.ensures.ok.1
    ∙ (ap₂ region_through first last
    ∙ (chunks_are r c.args.lengths.now c.shape.ensures.fits c.requires.rank c.requires.some).0)
