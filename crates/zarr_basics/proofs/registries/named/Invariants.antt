use Rattle.std.proofs.Common.{◌≡◌, map, take}
use Rattle.zarrs_plugin.specs.NamePattern.{exact}
use Rattle.zarrs_plugin.specs.Registry.{builtin_of}
use Rattle.zarr_basics.proofs.registries.named.Given as goal

abbrev pub invariant-loop-entry : goal.invariant-loop-entry
invariant-loop-entry g l = builtin_of l.entries.items ≡ map (λ e. (exact e.0.now, e.1)) (take l.entry-index l.names)
