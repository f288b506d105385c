use Rattle.std.proofs.Common.{◌≡◌, drop}
use Rattle.zarrs_plugin.specs.Registry.{find_registered, registered_of}
use Rattle.zarrs_plugin.proofs.registry.find_registered.Given as goal

abbrev pub invariant-loop-entry : goal.invariant-loop-entry
invariant-loop-entry g l = find_registered l.name (registered_of l.entries) ≡
    find_registered l.name (registered_of (drop l.entry-index l.entries))
