use Rattle.std.proofs.Common.{◌≤◌, take}
use Rattle.zarr_cli_runs.specs.Tally.{CountsAll}
use Rattle.zarr_cli_runs.proofs.tally.tally_of.Given as goal

abbrev pub invariant-loop-reply : goal.invariant-loop-reply
invariant-loop-reply l = record {
  counts : CountsAll l.size (take l.reply-index l.replies) l.tally;
  ok : l.tally.ok ≤ l.reply-index;
  done : l.tally.done ≤ l.reply-index;
  refused : l.tally.refused ≤ l.reply-index;
}
