use Rattle.std.proofs.Common.{◌≡◌, ◌++◌}
use Rattle.zarr_refs.proofs.ref_store.keys_of.Given as goal

abbrev pub invariant-loop-key : goal.invariant-loop-key
invariant-loop-key l = l.keys.items ++ l.key-iterator ≡ l.initial.key-iterator
