use Rattle.std.proofs.Common.{◌≡◌, ◌-◌, ◌≤◌, ◌++◌, flat_map}
use Rattle.std.specs.List.{range_with_len}
use Rattle.zarr_cli_runs.specs.MadeCommands.{element_made_at}
use Rattle.zarr_cli_runs.proofs.elements.push_row.Given as goal

abbrev pub invariant-loop-column : goal.invariant-loop-column
invariant-loop-column l =
    (l.columns.start ≤ l.column)
    × (l.bytes.items ≡ l.initial.bytes.items
    ++ flat_map (element_made_at l.k l.row) (range_with_len l.columns.start (l.column - l.columns.start)))
