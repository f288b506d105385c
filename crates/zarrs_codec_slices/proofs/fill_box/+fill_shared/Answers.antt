use Rattle.std.proofs.Common.{◌<◌, ◌+◌, ◌*◌, ◌/◌, length, arith, sym, ap, ◌∙◌, drop, refl}
use Rattle.zarrs_array_subset.specs.ArraySubset.{region}
use Rattle.zarrs_codec_slices.specs.Overlap.{span_at, in_bytes}
use Rattle.zarrs_codec_slices.proofs.CopyLaws.{drop-span, row_part}
use Rattle.zarrs_codec_slices.proofs.FillBoxLaws.{fill_none, fill_start, fill_end, fill_step, fill_run_room}
use Rattle.zarrs_codec_slices.proofs.FillBoxLaws.{fill_run_done}
use Rattle.zarrs_codec_slices.proofs.fill_box.+fill_shared.Goals as goal

pub fill_elements_run-requires-clause-within : goal.fill_elements_run-requires-clause-within
fill_elements_run-requires-clause-within t c =
    fill_run_room (region c.args.target_subset.now) (region c.args.subset.now) c.args.run.now.axis c.args.axis
    c.args.run.now.elements.target_at c.args.run.now.elements.source_at c.args.run.now.elements.len
    c.if-axis-run.true c.requires.rank c.requires.run c.args.fill.now c.args.target.now c.requires.target_count

pub returns-then-axis-run : goal.returns-then-axis-run
returns-then-axis-run t c =
    fill_run_done (region c.args.target_subset.now) (region c.args.subset.now) c.args.run.now.axis c.args.axis
    c.args.run.now.elements.target_at c.args.run.now.elements.source_at c.args.run.now.elements.len
    c.if-axis-run.true c.requires.rank c.requires.run c.args.fill.now c.args.target.now c.requires.target_count
    c.fill_elements_run.new.target c.fill_elements_run.ensures

pub returns-then-shared-eq0 : goal.returns-then-shared-eq0
returns-then-shared-eq0 t c =
    fill_none (region c.args.target_subset.now) (region c.args.subset.now) c.args.axis c.args.fill.now
    c.args.target.now c.requires.rank (omega (arith, c.requires.run.in_range)) c.requires.target_count
    (sym c.shared_span-shared.ensures.len ∙ c.if-shared-eq0.true)

pub loop-i-init : goal.loop-i-init
loop-i-init t c =
    fill_start (region c.args.target_subset.now) (region c.args.subset.now) c.args.axis c.args.fill.now
    c.args.target.now c.requires.rank (omega (arith, c.requires.run.in_range)) c.requires.target_count
    c.shared_span-shared.result.target_at c.shared_span-shared.ensures.target

pub returns : goal.returns
returns t c =
    fill_end (region c.args.target_subset.now) (region c.args.subset.now) c.args.axis c.args.fill.now
    c.args.target.now c.requires.rank (omega (arith, c.requires.run.in_range)) c.requires.target_count
    c.loop-i.target c.shared_span-shared.result.target_at c.loop-i.i c.shared_span-shared.ensures.target
    (omega (arith, c.shared_span-shared.ensures.len)) c.loop-i.invariant

pub loop-i-preserved : goal.loop-i-preserved
loop-i-preserved t c =
    fill_step (region c.args.target_subset.now) (region c.args.subset.now) c.args.axis c.args.fill.now
    c.args.target.now c.requires.rank (omega (arith, c.requires.run.in_range)) c.requires.target_count
    c.loop-i.target c.fill_shared.new.target c.shared_span-shared.result.target_at c.loop-i.i c.row_len-row.result
    ((c.shared_span-shared.result.target_at + c.loop-i.i) * c.row_len-row.result)
    c.shared_span-shared.ensures.target (omega (arith, c.shared_span-shared.ensures.len)) c.row_len-row.ensures refl
    c.loop-i.invariant c.fill_shared.ensures

pub fill_shared-requires : goal.fill_shared-requires
fill_shared-requires t c = (
  omega (arith, c.requires.run.in_range),
  (
    c.requires.rank,
    (
      c.requires.byte,
      (
        c.requires.run,
        (
          omega arith,
          let target = region c.args.target_subset.now in
              let in_target : c.args.axis < length target = omega (arith, c.requires.run.in_range) in
              row_part (span_at target c.args.axis) (in_bytes (length c.args.fill.now) (drop c.args.axis target))
              (in_bytes (length c.args.fill.now) (drop (c.args.axis + 1) target)) c.loop-i.target
              (c.shared_span-shared.result.target_at + c.loop-i.i) c.row_len-row.result
              ((c.shared_span-shared.result.target_at + c.loop-i.i) * c.row_len-row.result)
              (ap (in_bytes (length c.args.fill.now)) (drop-span target c.args.axis in_target))
              (c.loop-i.invariant.as_long ∙ c.requires.target_count)
              (c.row_len-row.ensures ∙ ap (λ n. n / (span_at target c.args.axis).size)
              (sym c.loop-i.invariant.as_long)) (omega (
                arith,
                c.shared_span-shared.ensures.len,
                c.shared_span-shared.ensures.target,
              )) refl,
        ),
      ),
    ),
  ),
)
