use Rattle.std.proofs.Common.{arith, ap, sym, ◌∙◌, append-nil, ◌++◌}
use Rattle.zarr_model.specs.Region.{tuple_at}
use Rattle.zarrs_array_subset.proofs.Ravels.{push_step, region_none}
use Rattle.zarrs_array_subset.proofs.ravel.+push_tuple.Goals as goal

pub returns-in-Ok-clause-tuple : goal.returns-in-Ok-clause-tuple
returns-in-Ok-clause-tuple t c =
    push_step c.args.out.now.items c.push.new.self.items c.push_tuple.new.out.items c.args.start.now c.args.shape.now
    c.args.place c.args.count
    c.requires.fits (omega arith) c.requires.whole c.requires.below
    c.in_ok-push-in-len1-up-start.ensures.ok c.in-Ok.ensures.tuple

pub returns-in-empty-clause-tuple : goal.returns-in-empty-clause-tuple
returns-in-empty-clause-tuple t c = sym (ap (λ r. c.args.out.now.items ++ tuple_at r c.args.place)
    (region_none c.args.start.now c.args.shape.now (omega arith)) ∙ append-nil c.args.out.now.items)
