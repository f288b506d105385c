use Rattle.std.proofs.Common.{◌∙◌, arith, eqb-true, length, subst, sym}
use Rattle.zarr_model.specs.Prelude.{count, of_bytes}
use Rattle.zarrs_array_subset.specs.ArraySubset.{region}
use Rattle.zarrs_codec_slices.specs.Elements.{fixed_elements}
use Rattle.zarrs_codec_slices.specs.Filled.{Filled}
use Rattle.zarrs_codec_slices.proofs.ElementLaws.{count-in_bytes}
use Rattle.zarrs_codec_slices.proofs.FillBoxLaws.{within_rank, inside_fewer, apart_filled, of_fill, fill_one}
use Rattle.zarrs_codec_slices.proofs.RunLaws.{apart_none, apart_nothing, counts_some, counts_none, count_fits}
use Rattle.zarrs_codec_slices.proofs.fill_box.fill_elements.Goals.{then-is_empty-via-then-is_empty}
use Rattle.zarrs_codec_slices.proofs.fill_box.fill_elements.Goals.{then-is_empty-via-else-is_empty+then-is_empty-2}
use Rattle.zarrs_codec_slices.proofs.fill_box.fill_elements.Goals as goal

pub returns-then-is_empty-clause-filled : goal.returns-then-is_empty-clause-filled
returns-then-is_empty-clause-filled c =
    apart_filled (region c.args.target_subset.now) (region c.args.subset.now) _ _ (elim c.then-is_empty.branch [
      | then-is_empty-via-then-is_empty w ↦ apart_nothing (region c.args.target_subset.now) (region c.args.subset.now)
          (counts_none (length c.args.fill.now) (count (region c.args.target_subset.now)) (length c.args.target.now)
          c.requires.target_count c.requires.some (sym c.is_empty.ensures ∙ w.if-is_empty.true))
      | then-is_empty-via-else-is_empty+then-is_empty-2 w ↦ apart_none (region c.args.target_subset.now)
          (region c.args.subset.now)
          (eqb-true (count (region c.args.subset.now)) 0 (sym w.is_empty-else-is_empty.ensures ∙ w.if-is_empty-2.true))
    ])

pub returns-then-dimensionality-eq0-clause-filled : goal.returns-then-dimensionality-eq0-clause-filled
returns-then-dimensionality-eq0-clause-filled c =
    subst (λ new. Filled (region c.args.target_subset.now) (region c.args.subset.now) (of_bytes c.args.fill.now)
    (fixed_elements (length c.args.fill.now) c.args.target.now) (fixed_elements (length c.args.fill.now) new))
    (sym c.copy_from_slice.ensures.after)
    (fill_one (region c.args.target_subset.now) (region c.args.subset.now) c.args.fill.now c.args.target.now
    c.requires.some (sym c.dimensionality.ensures ∙ c.if-dimensionality-eq0.true)
    (within_rank (region c.args.subset.now) (region c.args.target_subset.now) c.requires.inside)
    c.requires.target_count)

pub shared_run-requires-clause-rank : goal.shared_run-requires-clause-rank
shared_run-requires-clause-rank c = sym (within_rank (region c.args.subset.now) (region c.args.target_subset.now)
    c.requires.inside)

pub shared_run-requires-clause-some : goal.shared_run-requires-clause-some
shared_run-requires-clause-some c =
    counts_some (length c.args.fill.now) (count (region c.args.target_subset.now)) (length c.args.target.now)
    c.requires.target_count (sym c.is_empty.ensures ∙ c.if-is_empty.false)

pub shared_run-requires-clause-source_fits : goal.shared_run-requires-clause-source_fits
shared_run-requires-clause-source_fits c =
    let fits = count_fits (length c.args.fill.now) (count (region c.args.target_subset.now))
    (length c.args.target.now) c.requires.target_count c.requires.some (omega arith) in
    omega (arith, fits, inside_fewer (region c.args.subset.now) (region c.args.target_subset.now) c.requires.inside)

pub fill_shared-requires-clause-rank : goal.fill_shared-requires-clause-rank
fill_shared-requires-clause-rank c = sym (within_rank (region c.args.subset.now) (region c.args.target_subset.now)
    c.requires.inside)

pub fill_shared-requires-clause-target_count : goal.fill_shared-requires-clause-target_count
fill_shared-requires-clause-target_count c = c.requires.target_count
    ∙ sym (count-in_bytes (length c.args.fill.now) (region c.args.target_subset.now))

pub returns-in-Some-clause-filled : goal.returns-in-Some-clause-filled
returns-in-Some-clause-filled c =
    of_fill (region c.args.target_subset.now) (region c.args.subset.now) c.args.fill.now c.args.target.now
    c.fill_shared.new.target
    c.requires.some c.requires.target_count c.fill_shared.ensures
