use Rattle.std.proofs.Common.{rules}
use Rattle.zarrs_storage.specs.Store.{handed_parts}
use Rattle.zarr_refs.specs.Lent.{over_of}
use Rattle.zarr_refs.specs.Kept.{CountsNoMore}
use Rattle.zarr_refs.proofs.KeptLaws.{counts_taken, counts_same, read_kept}
use Rattle.zarr_refs.proofs.ref_store.RefStoreStore.get_partial_many.Goals as goal

pub returns-in-Ok-clause-kept : goal.returns-in-Ok-clause-kept
returns-in-Ok-clause-kept g c =
    let handed : CountsNoMore c.args.self.now.taken c.with_parts-self.result
    (g.S.Store.shown c.args.self.now.base.now).taken (g.S.Store.shown c.read_parts.new.base).taken =
    counts_taken c.args.self.now.taken c.with_parts-self.result (handed_parts c.in-Ok.parts) _ _ (search rules)
    (search rules) (search rules) in
    read_kept (over_of g.S.Store c.args.self.now) _ _ _ c.read_parts.ensures.reads.same c.read_parts.ensures.puts
    c.read_parts.ensures.reads.cause.later (search rules) (search rules) (search rules) handed

pub returns-in-Err-clause-kept : goal.returns-in-Err-clause-kept
returns-in-Err-clause-kept g c =
    let handed : CountsNoMore c.args.self.now.taken c.args.self.now.taken
    (g.S.Store.shown c.args.self.now.base.now).taken (g.S.Store.shown c.read_parts.new.base).taken =
    counts_same c.args.self.now.taken _ _ (search rules) in
    read_kept (over_of g.S.Store c.args.self.now) _ _ _ c.read_parts.ensures.reads.same c.read_parts.ensures.puts
    c.read_parts.ensures.reads.cause.later (search rules) (search rules) (search rules) handed
