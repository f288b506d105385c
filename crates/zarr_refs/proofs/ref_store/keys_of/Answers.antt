use Rattle.std.proofs.Common.{◌≡◌, sym, subst, arith}
use Rattle.std.specs.BTreeMap as tree
use Rattle.std.proofs.lemmas.Grind.{common_steps}
use Rattle.zarr_refs.specs.RefStore.{ListsSlices}
use Rattle.zarr_refs.proofs.KeyLaws.{keys_listed}
use Rattle.zarr_refs.proofs.ref_store.keys_of.Goals as goal

pub returns-clause-keys : goal.returns-clause-keys
returns-clause-keys c =
    let all : c.loop-key.keys.items ≡ tree.keys c.args.slices.now = grind (arith, common_steps) in
    subst (λ keys. ListsSlices c.args.slices.now keys) (sym all)
    (keys_listed c.args.slices.now c.keys-key-items.ensures.ordered)
