use Rattle.zarrs_array_subset.specs.ArraySubset.{region}
use Rattle.zarrs_codec_slices.specs.Runs.{IsRunAxis}
use Rattle.zarrs_codec_slices.proofs.runs.run_axis.Given as goal

abbrev pub decreases-loop-axis : goal.decreases-loop-axis
decreases-loop-axis l = l.axis

abbrev pub invariant-loop-axis : goal.invariant-loop-axis
invariant-loop-axis l = IsRunAxis (region l.target_subset) (region l.source_subset) l.axis l.num_elements
