use Rattle.std.proofs.Common.{◌≡◌, ◌++◌, drop}
use Rattle.zarr_codecs_elements.specs.Moved.{in_runs}
use Rattle.zarr_codecs_elements.proofs.runs.expanded.Given as goal

abbrev pub invariant-loop-place : goal.invariant-loop-place
invariant-loop-place l = l.places.items ++ in_runs l.run (drop l.place-index l.runs) ≡ in_runs l.run l.runs
