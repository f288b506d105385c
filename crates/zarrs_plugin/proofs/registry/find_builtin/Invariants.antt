use Rattle.std.proofs.Common.{◌≡◌, drop}
use Rattle.zarrs_plugin.specs.Registry.{find_builtin, builtin_of}
use Rattle.zarrs_plugin.proofs.registry.find_builtin.Given as goal

abbrev pub invariant-loop-entry : goal.invariant-loop-entry
invariant-loop-entry g l =
    find_builtin l.name (builtin_of l.entries) ≡ find_builtin l.name (builtin_of (drop l.entry-index l.entries))
