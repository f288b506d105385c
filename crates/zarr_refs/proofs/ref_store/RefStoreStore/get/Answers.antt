use Rattle.std.proofs.Common.{rules}
use Rattle.zarrs_storage.specs.Store.{handed_out}
use Rattle.zarr_refs.specs.Lent.{over_of}
use Rattle.zarr_refs.specs.Kept.{CountsNoMore}
use Rattle.zarr_refs.proofs.KeptLaws.{counts_taken, counts_same, read_kept}
use Rattle.zarr_refs.proofs.ref_store.RefStoreStore.get.Goals as goal

pub returns-in-Ok-clause-kept : goal.returns-in-Ok-clause-kept
returns-in-Ok-clause-kept g c =
    let handed : CountsNoMore c.args.self.now.taken c.with_value-self.result
    (g.S.Store.shown c.args.self.now.base.now).taken (g.S.Store.shown c.read_slice.new.base).taken =
    counts_taken c.args.self.now.taken c.with_value-self.result (handed_out c.in-Ok.value) _ _ (search rules)
    (search rules) (search rules) in
    read_kept (over_of g.S.Store c.args.self.now) _ _ _ c.read_slice.ensures.reads.same c.read_slice.ensures.puts
    c.read_slice.ensures.reads.cause.later (search rules) (search rules) (search rules) handed

pub returns-in-Err-clause-kept : goal.returns-in-Err-clause-kept
returns-in-Err-clause-kept g c =
    let handed : CountsNoMore c.args.self.now.taken c.args.self.now.taken
    (g.S.Store.shown c.args.self.now.base.now).taken (g.S.Store.shown c.read_slice.new.base).taken =
    counts_same c.args.self.now.taken _ _ (search rules) in
    read_kept (over_of g.S.Store c.args.self.now) _ _ _ c.read_slice.ensures.reads.same c.read_slice.ensures.puts
    c.read_slice.ensures.reads.cause.later (search rules) (search rules) (search rules) handed
