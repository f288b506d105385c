use Rattle.std.proofs.Common.{◌≡◌, ◌++◌, map, drop, string_bytes}
use Rattle.zarr_refs.specs.Lines.{first_references}
use Rattle.zarr_refs.proofs.lines.first_references.Given as goal

abbrev pub invariant-loop-line : goal.invariant-loop-line
invariant-loop-line l = l.references.items ++ first_references (map string_bytes (drop l.line-index l.lines)) ≡
    first_references (map string_bytes l.fn.lines)
