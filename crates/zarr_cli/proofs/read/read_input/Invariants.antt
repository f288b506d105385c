use Rattle.std.proofs.Common.{◌≡◌, ◌+◌, ◌-◌, ◌≤◌, ℕ, List, length}
use Rattle.zarr_cli.specs.Input.{input_limit}
use Rattle.zarr_cli.specs.Steps.{HasTaken, AreRead}
use Rattle.zarr_cli.proofs.read.read_input.Given as goal

abbrev pub invariant-pieces : goal.invariant-pieces
invariant-pieces g l = record {
  within : l.taken ≤ input_limit + 1;
  bytes : List ℕ;
  many : length bytes ≡ l.taken;
  read : AreRead bytes l.so_far;
  taken : HasTaken (g.R.Source.shown l.fn.source).left bytes (g.R.Source.shown l.source).left;
  later : (g.R.Source.shown l.fn.source).faults ≤ (g.R.Source.shown l.source).faults;
}

abbrev pub decreases-pieces : goal.decreases-pieces
decreases-pieces g l = input_limit + 1 - l.taken
