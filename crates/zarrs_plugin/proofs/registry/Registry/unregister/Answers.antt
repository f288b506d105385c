use Rattle.std.proofs.Common.{◌∙◌, arith}
use Rattle.zarrs_plugin.proofs.PlaceLemmas.{has_entry-at, has_entry-past, remove_at-set, remove_at-past}
use Rattle.zarrs_plugin.proofs.registry.Registry.unregister.Goals as goal

pub returns-then-place-len-clause-there : goal.returns-then-place-len-clause-there
returns-then-place-len-clause-there g c =
    has_entry-past c.args.self.now.registered.items c.args.handle.now.0 (omega arith)

pub returns-then-place-len-clause-rest : goal.returns-then-place-len-clause-rest
returns-then-place-len-clause-rest g c =
    rw (← remove_at-past c.args.self.now.registered.items c.args.handle.now.0 (omega arith))

pub returns-clause-there : goal.returns-clause-there
returns-clause-there g c = c.is_some-was_there.ensures
    ∙ has_entry-at c.args.self.now.registered.items c.args.handle.now.0 c.index.result.now (omega arith) c.index.ensures

pub returns-clause-rest : goal.returns-clause-rest
returns-clause-rest g c = rw (← remove_at-set c.args.self.now.registered.items c.args.handle.now.0)
