use Rattle.std.proofs.Common.{◌+◌, ◌*◌, ◌/◌, arith, sym, ap, ◌∙◌, drop, refl, subst}
use Rattle.zarrs_array_subset.specs.ArraySubset.{region}
use Rattle.zarrs_codec_slices.specs.Overlap.{span_at, Copied, in_bytes}
use Rattle.zarrs_codec_slices.proofs.CopyLaws.{bytes-span, shared_none, rows_start, rows_step, rows_end, row_part}
use Rattle.zarrs_codec_slices.proofs.RunLaws.{shared_room, shared_enough, shared_copied}
use Rattle.zarrs_codec_slices.proofs.overlap.+copy_shared.Goals as goal

pub returns-then-shared-eq0 : goal.returns-then-shared-eq0
returns-then-shared-eq0 t c =
    shared_none _ _ _ _ _ _ (bytes-span (region c.args.target_subset.now) c.args.axis c.args.size (omega arith))
    (bytes-span (region c.args.source_subset.now) c.args.axis c.args.size (omega arith)) c.args.source.now
    c.args.target.now
    (sym c.shared_span-shared.ensures.len ∙ c.if-shared-eq0.true)

pub copy_elements_run-requires-clause-target_within : goal.copy_elements_run-requires-clause-target_within
copy_elements_run-requires-clause-target_within t c =
    shared_room (region c.args.target_subset.now) (region c.args.source_subset.now) c.args.run.now.axis c.args.axis
    c.args.run.now.elements.target_at c.args.run.now.elements.source_at c.args.run.now.elements.len c.if-axis-run.true
    c.requires.rank c.requires.run
    c.args.size c.args.source.now c.args.target.now c.requires.target_count c.requires.source_count

pub copy_elements_run-requires-clause-source_within : goal.copy_elements_run-requires-clause-source_within
copy_elements_run-requires-clause-source_within t c =
    shared_enough (region c.args.target_subset.now) (region c.args.source_subset.now) c.args.run.now.axis c.args.axis
    c.args.run.now.elements.target_at c.args.run.now.elements.source_at c.args.run.now.elements.len c.if-axis-run.true
    c.requires.rank c.requires.run
    c.args.size c.args.source.now c.args.target.now c.requires.target_count c.requires.source_count

pub returns-then-axis-run : goal.returns-then-axis-run
returns-then-axis-run t c =
    subst (λ new. Copied (in_bytes c.args.size (drop c.args.axis (region c.args.target_subset.now)))
    (in_bytes c.args.size (drop c.args.axis (region c.args.source_subset.now))) c.args.source.now c.args.target.now
    new) (sym c.copy_elements_run.ensures)
    (shared_copied (region c.args.target_subset.now) (region c.args.source_subset.now) c.args.run.now.axis c.args.axis
    c.args.run.now.elements.target_at c.args.run.now.elements.source_at c.args.run.now.elements.len c.if-axis-run.true
    c.requires.rank c.requires.run
    c.args.size c.args.source.now c.args.target.now c.requires.target_count c.requires.source_count)

pub loop-i-init : goal.loop-i-init
loop-i-init t c =
    rows_start _ _ _ _ _ _ (bytes-span (region c.args.target_subset.now) c.args.axis c.args.size (omega arith))
    (bytes-span (region c.args.source_subset.now) c.args.axis c.args.size (omega arith)) c.args.source.now
    c.args.target.now
    c.shared_span-shared.result.target_at c.shared_span-shared.ensures.target

pub returns : goal.returns
returns t c =
    rows_end _ _ _ _ _ _ (bytes-span (region c.args.target_subset.now) c.args.axis c.args.size (omega arith))
    (bytes-span (region c.args.source_subset.now) c.args.axis c.args.size (omega arith)) c.args.source.now
    c.args.target.now
    c.loop-i.target
    c.shared_span-shared.result.target_at c.loop-i.i c.shared_span-shared.result.len
    c.shared_span-shared.ensures.target c.shared_span-shared.ensures.len (omega arith) c.loop-i.invariant

pub loop-i-preserved : goal.loop-i-preserved
loop-i-preserved t c =
    rows_step _ _ _ _ _ _ (bytes-span (region c.args.target_subset.now) c.args.axis c.args.size (omega arith))
    (bytes-span (region c.args.source_subset.now) c.args.axis c.args.size (omega arith)) c.args.source.now
    c.args.target.now
    c.loop-i.target c.copy_shared.new.target
    c.shared_span-shared.result.target_at c.shared_span-shared.result.source_at c.shared_span-shared.result.len
    c.loop-i.i c.row_len-target_row.result c.row_len-source_row.result
    ((c.shared_span-shared.result.target_at + c.loop-i.i) * c.row_len-target_row.result)
    ((c.shared_span-shared.result.source_at + c.loop-i.i) * c.row_len-source_row.result)
    c.shared_span-shared.ensures.target c.shared_span-shared.ensures.source c.shared_span-shared.ensures.len
    c.loop-i-test.true
    c.requires.target_count c.requires.source_count c.row_len-target_row.ensures c.row_len-source_row.ensures refl
    refl c.loop-i.invariant c.copy_shared.ensures

pub copy_shared-requires : goal.copy_shared-requires
copy_shared-requires t c = (
  omega arith,
  (
    c.requires.rank,
    (
      c.requires.run,
      (
        omega arith,
        (
          row_part _ _ _ c.loop-i.target
              (c.shared_span-shared.result.target_at + c.loop-i.i) c.row_len-target_row.result
              ((c.shared_span-shared.result.target_at + c.loop-i.i) * c.row_len-target_row.result)
              (bytes-span (region c.args.target_subset.now) c.args.axis c.args.size (omega arith))
              (c.loop-i.invariant.as_long ∙ c.requires.target_count)
              (c.row_len-target_row.ensures ∙ ap (λ n. n / (span_at (region c.args.target_subset.now) c.args.axis).size)
              (sym c.loop-i.invariant.as_long)) (omega (
                arith,
                c.shared_span-shared.ensures.len,
                c.shared_span-shared.ensures.target,
              )) refl,
          row_part _ _ _ c.args.source.now
              (c.shared_span-shared.result.source_at + c.loop-i.i) c.row_len-source_row.result
              ((c.shared_span-shared.result.source_at + c.loop-i.i) * c.row_len-source_row.result)
              (bytes-span (region c.args.source_subset.now) c.args.axis c.args.size (omega arith))
              c.requires.source_count
              c.row_len-source_row.ensures (omega (
                arith,
                c.shared_span-shared.ensures.len,
                c.shared_span-shared.ensures.source,
              )) refl,
        ),
      ),
    ),
  ),
)
