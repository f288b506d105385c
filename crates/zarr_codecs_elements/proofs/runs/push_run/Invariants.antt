use Rattle.std.proofs.Common.{◌≡◌, ◌+◌, ◌-◌, ◌++◌}
use Rattle.std.specs.List.{range_with_len}
use Rattle.zarr_codecs_elements.proofs.runs.push_run.Given as goal

abbrev pub invariant-loop-i : goal.invariant-loop-i
invariant-loop-i l = l.places.items ++ range_with_len (l.from + l.i) (l.run - l.i) ≡
    l.initial.places.items ++ range_with_len l.from l.run
