use Rattle.std.proofs.Common.{◌≡◌, ◌+◌, ◌++◌, length, map, string_bytes}
use Rattle.std.specs.Vec.Iter.{into_iter_items}
use Rattle.zarr_cli_lines.specs.Parts.{entry_view}
use Rattle.zarr_cli_lines.specs.Text.{first_entries}
use Rattle.zarr_rechunk.specs.Input.{key_lines}
use Rattle.zarr_rechunk.proofs.program.parse_entries.Given as goal

abbrev pub decreases-lines : goal.decreases-lines
decreases-lines l = length (into_iter_items l.left)

abbrev pub invariant-lines : goal.invariant-lines
invariant-lines l = record {
  parsed : map entry_view l.entries.items ++ first_entries (map string_bytes (into_iter_items l.left)) ≡
      first_entries (key_lines l.fn.lines.items);
  all : length l.entries.items + length (into_iter_items l.left) ≡ length (key_lines l.fn.lines.items);
}
