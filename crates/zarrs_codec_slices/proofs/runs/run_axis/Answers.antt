use Rattle.std.proofs.Common.{◌-◌, ◌*◌, arith, subst, sym, ap, ◌∙◌}
use Rattle.zarrs_array_subset.specs.ArraySubset.{region}
use Rattle.zarrs_codec_slices.specs.Runs.{IsRunAxis}
use Rattle.zarrs_codec_slices.proofs.RunLaws.{axis_room, axis_step}
use Rattle.zarrs_codec_slices.proofs.runs.run_axis.Goals as goal

pub overflow_mul-num_elements : goal.overflow_mul-num_elements
overflow_mul-num_elements c =
    let room = axis_room (region c.args.target_subset.now) (region c.args.source_subset.now) c.loop-axis.axis
    c.loop-axis.num_elements c.requires.rank c.loop-axis.invariant c.requires.some in
    omega (arith, room, ap (λ n. c.loop-axis.num_elements * n) c.size_in-num_elements.ensures, c.requires.fits)

pub loop-axis-preserved : goal.loop-axis-preserved
loop-axis-preserved c =
    subst (λ n. IsRunAxis (region c.args.target_subset.now) (region c.args.source_subset.now) (c.loop-axis.axis - 1)
    (c.loop-axis.num_elements * n)) (sym c.size_in-num_elements.ensures)
    (axis_step (region c.args.target_subset.now) (region c.args.source_subset.now) c.loop-axis.axis
    c.loop-axis.num_elements c.requires.rank c.loop-axis.invariant
    (omega arith) (sym c.is_same_span.ensures ∙ c.if-is_same_span.true))
