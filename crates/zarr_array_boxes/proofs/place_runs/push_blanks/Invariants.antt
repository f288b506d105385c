use Rattle.std.proofs.Common.{◌≡◌, ◌++◌, ◌-◌, replicate}
use Rattle.zarr_array_boxes.proofs.place_runs.push_blanks.Given as goal

abbrev pub invariant-loop : goal.invariant-loop
invariant-loop l =
    l.picks.items ++ replicate (l.len - l.counter) (l.blank, 1) ≡ l.initial.picks.items ++ replicate l.len (l.blank, 1)
