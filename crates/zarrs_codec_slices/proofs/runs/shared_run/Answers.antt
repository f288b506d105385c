use Rattle.std.proofs.Common.{◌≤◌, ◌*◌, arith, ap₂, sym, ◌∙◌}
use Rattle.zarrs_array_subset.specs.ArraySubset.{region}
use Rattle.zarrs_codec_slices.specs.Overlap.{span_at}
use Rattle.zarrs_codec_slices.proofs.RunLaws.{apart_at, some_fit, some_fit_source, run_some}
use Rattle.zarrs_codec_slices.proofs.runs.shared_run.Goals as goal

pub returns-then-shared-eq0 : goal.returns-then-shared-eq0
returns-then-shared-eq0 c =
    apart_at (region c.args.target_subset.now) (region c.args.source_subset.now) c.run_axis-run.result.axis
    c.run_axis-run.ensures.in_range
    (omega (arith, c.run_axis-run.ensures.in_range, c.requires.rank))
    (sym c.shared_span-shared.ensures.len ∙ c.if-shared-eq0.true)

pub overflow_mul-result : goal.overflow_mul-result
overflow_mul-result c =
    let fits : c.shared_span-shared.result.target_at ≤ (span_at (region c.args.target_subset.now)
    c.run_axis-run.result.axis).size =
    omega (arith, c.shared_span-shared.ensures.target, c.shared_span-shared.ensures.len, c.if-shared-eq0.false) in
    omega (
      arith,
      some_fit (region c.args.target_subset.now) (region c.args.source_subset.now) c.run_axis-run.result.axis
          c.run_axis-run.result.num_elements c.requires.rank
          c.run_axis-run.ensures c.shared_span-shared.result.target_at fits c.requires.some,
      c.requires.fits,
    )

pub overflow_mul-result-2 : goal.overflow_mul-result-2
overflow_mul-result-2 c =
    let fits : c.shared_span-shared.result.source_at ≤ (span_at (region c.args.source_subset.now)
    c.run_axis-run.result.axis).size =
    omega (arith, c.shared_span-shared.ensures.source, c.shared_span-shared.ensures.len, c.if-shared-eq0.false) in
    omega (
      arith,
      some_fit_source (region c.args.target_subset.now) (region c.args.source_subset.now) c.run_axis-run.result.axis
          c.run_axis-run.result.num_elements c.requires.rank
          c.run_axis-run.ensures c.shared_span-shared.result.source_at fits c.requires.some_source,
      c.requires.source_fits,
    )

pub overflow_mul-result-3 : goal.overflow_mul-result-3
overflow_mul-result-3 c =
    let fits : c.shared_span-shared.result.len ≤ (span_at (region c.args.target_subset.now)
    c.run_axis-run.result.axis).size =
    omega (arith, c.shared_span-shared.ensures.len) in
    omega (
      arith,
      some_fit (region c.args.target_subset.now) (region c.args.source_subset.now) c.run_axis-run.result.axis
          c.run_axis-run.result.num_elements c.requires.rank
          c.run_axis-run.ensures c.shared_span-shared.result.len fits c.requires.some,
      c.requires.fits,
    )

pub returns : goal.returns
returns c = record {
  in_range = c.run_axis-run.ensures.in_range;
  same_after = c.run_axis-run.ensures.same_after;
  some = run_some (region c.args.target_subset.now) c.run_axis-run.result.axis c.shared_span-shared.result.len
      c.run_axis-run.result.num_elements c.run_axis-run.ensures.in_range
      c.requires.some (omega (arith, c.if-shared-eq0.false)) c.run_axis-run.ensures.num_elements_is;
  to_is = ap₂ (λ a b. a * b) c.shared_span-shared.ensures.target c.run_axis-run.ensures.num_elements_is;
  from_is = ap₂ (λ a b. a * b) c.shared_span-shared.ensures.source c.run_axis-run.ensures.num_elements_is;
  len_is = ap₂ (λ a b. a * b) c.shared_span-shared.ensures.len c.run_axis-run.ensures.num_elements_is;
}
