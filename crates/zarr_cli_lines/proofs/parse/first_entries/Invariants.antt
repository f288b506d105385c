use Rattle.std.proofs.Common.{◌≡◌, ◌++◌, map, drop, string_bytes}
use Rattle.zarr_cli_lines.specs.Text.{first_entries}
use Rattle.zarr_cli_lines.specs.Parts.{entry_view}
use Rattle.zarr_cli_lines.proofs.parse.first_entries.Given as goal

abbrev pub invariant-loop-line : goal.invariant-loop-line
invariant-loop-line l = map entry_view l.entries.items ++ first_entries (map string_bytes (drop l.line-index l.lines)) ≡
    first_entries (map string_bytes l.fn.lines)
