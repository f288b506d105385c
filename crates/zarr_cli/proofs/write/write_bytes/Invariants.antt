use Rattle.std.proofs.Common.{◌-◌, ◌≤◌, length, take}
use Rattle.zarr_cli_runs.specs.Ending.{IsGiven}
use Rattle.zarr_cli.proofs.write.write_bytes.Given as goal

abbrev pub invariant-pieces : goal.invariant-pieces
invariant-pieces g l = record {
  within : l.done ≤ length l.text;
  given : IsGiven (take l.done l.text) (g.W.Sink.shown l.fn.sink).bytes (g.W.Sink.shown l.sink).bytes;
  later : (g.W.Sink.shown l.fn.sink).faults ≤ (g.W.Sink.shown l.sink).faults;
}

abbrev pub decreases-pieces : goal.decreases-pieces
decreases-pieces g l = length l.text - l.done
