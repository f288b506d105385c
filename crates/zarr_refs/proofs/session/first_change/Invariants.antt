use Rattle.zarr_refs.proofs.ChangeLaws.{StandsBehind}
use Rattle.zarr_refs.proofs.session.first_change.Given as goal

abbrev pub invariant-loop-number : goal.invariant-loop-number
invariant-loop-number l = StandsBehind l.commands l.number
