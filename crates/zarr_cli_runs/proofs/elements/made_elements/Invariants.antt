use Rattle.std.proofs.Common.{◌≡◌, ◌-◌, ◌≤◌, ◌++◌, [], flat_map}
use Rattle.std.specs.List.{range_with_len}
use Rattle.zarr_cli_lines.specs.Parts.{span_of_range}
use Rattle.zarr_cli_runs.specs.MadeCommands.{row_of}
use Rattle.zarr_cli_runs.proofs.elements.made_elements.Given as goal

abbrev pub invariant-loop-row : goal.invariant-loop-row
invariant-loop-row l =
    (l.area.rows.start ≤ l.row)
    × (l.bytes.items ≡ [] ++ flat_map (row_of l.k (span_of_range l.area.columns))
    (range_with_len l.area.rows.start (l.row - l.area.rows.start)))
