use Rattle.std.proofs.Common.{◌∙◌, length, arith, subst, sym}
use Rattle.zarrs_codec_slices.specs.Elements.{fixed_elements}
use Rattle.zarrs_codec_slices.specs.Overlap.{Copied}
use Rattle.zarr_model.specs.Prelude.{count}
use Rattle.zarrs_array_subset.specs.ArraySubset.{region}
use Rattle.zarrs_codec_slices.proofs.ElementLaws.{count-in_bytes, of_elements}
use Rattle.zarrs_codec_slices.proofs.RunLaws.{apart_none, apart_nothing, apart_copied, one_copied, counts_some}
use Rattle.zarrs_codec_slices.proofs.RunLaws.{counts_none, count_fits}
use Rattle.zarrs_codec_slices.proofs.overlap.copy_elements.Goals.{then-is_empty-via-then-is_empty}
use Rattle.zarrs_codec_slices.proofs.overlap.copy_elements.Goals.{then-is_empty-via-else-is_empty+then-is_empty-2}
use Rattle.zarrs_codec_slices.proofs.overlap.copy_elements.Goals as goal

pub copy_shared-requires-clause-target_count : goal.copy_shared-requires-clause-target_count
copy_shared-requires-clause-target_count c = c.requires.target_count
    ∙ sym (count-in_bytes c.args.size (region c.args.target_subset.now))

pub copy_shared-requires-clause-source_count : goal.copy_shared-requires-clause-source_count
copy_shared-requires-clause-source_count c = c.requires.source_count
    ∙ sym (count-in_bytes c.args.size (region c.args.source_subset.now))

pub returns-then-is_empty-clause-copied : goal.returns-then-is_empty-clause-copied
returns-then-is_empty-clause-copied c =
    apart_copied (region c.args.target_subset.now) (region c.args.source_subset.now) _ _ (elim c.then-is_empty.branch [
      | then-is_empty-via-then-is_empty w ↦ apart_nothing (region c.args.target_subset.now)
          (region c.args.source_subset.now)
          (counts_none c.args.size (count (region c.args.target_subset.now)) (length c.args.target.now)
          c.requires.target_count c.requires.some (sym c.is_empty.ensures ∙ w.if-is_empty.true))
      | then-is_empty-via-else-is_empty+then-is_empty-2 w ↦ apart_none (region c.args.target_subset.now)
          (region c.args.source_subset.now)
          (counts_none c.args.size (count (region c.args.source_subset.now)) (length c.args.source.now)
          c.requires.source_count c.requires.some (sym w.is_empty-else-is_empty.ensures ∙ w.if-is_empty-2.true))
    ])

pub returns-in-Some-clause-copied : goal.returns-in-Some-clause-copied
returns-in-Some-clause-copied c =
    of_elements c.args.size (region c.args.target_subset.now) (region c.args.source_subset.now) c.args.source.now
    c.args.target.now c.copy_shared.new.target
    c.requires.some c.requires.target_count c.requires.source_count c.copy_shared.ensures

pub returns-in_default-clause-copied : goal.returns-in_default-clause-copied
returns-in_default-clause-copied c = apart_copied (region c.args.target_subset.now) (region c.args.source_subset.now)
    _ _ c.in_default.ensures

pub returns-then-dimensionality-eq0-clause-copied : goal.returns-then-dimensionality-eq0-clause-copied
returns-then-dimensionality-eq0-clause-copied c =
    subst (λ new. Copied (region c.args.target_subset.now) (region c.args.source_subset.now)
    (fixed_elements c.args.size c.args.source.now) (fixed_elements c.args.size c.args.target.now)
    (fixed_elements c.args.size new)) (sym c.copy_from_slice.ensures.after)
    (one_copied c.args.size (region c.args.target_subset.now) (region c.args.source_subset.now) c.args.source.now
    c.args.target.now c.requires.some
    (sym c.dimensionality.ensures ∙ c.if-dimensionality-eq0.true) c.requires.rank c.requires.target_count
    c.requires.source_count)

pub shared_run-requires : goal.shared_run-requires
shared_run-requires c = record {
  rank = c.requires.rank;
  some_axis = omega (arith, c.dimensionality.ensures, c.if-dimensionality-eq0.false);
  some = counts_some c.args.size (count (region c.args.target_subset.now)) (length c.args.target.now)
      c.requires.target_count (sym c.is_empty.ensures ∙ c.if-is_empty.false);
  fits = count_fits c.args.size (count (region c.args.target_subset.now)) (length c.args.target.now)
      c.requires.target_count c.requires.some (omega arith);
  some_source = counts_some c.args.size (count (region c.args.source_subset.now)) (length c.args.source.now)
      c.requires.source_count (sym c.is_empty-else-is_empty.ensures ∙ c.if-is_empty-2.false);
  source_fits = count_fits c.args.size (count (region c.args.source_subset.now)) (length c.args.source.now)
      c.requires.source_count c.requires.some (omega arith);
}
