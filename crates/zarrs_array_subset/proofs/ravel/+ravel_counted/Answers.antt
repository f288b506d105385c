use Rattle.std.proofs.Common.{arith, sym, ◌^◌}
use Rattle.zarrs_array_subset.proofs.Ravels.{front_none, head_fits}
use Rattle.zarrs_array_subset.proofs.ravel.+ravel_counted.Goals as goal

pub overflow_add-result : goal.overflow_add-result
overflow_add-result t c = let h = head_fits c.args.shape.now c.args.indices.now c.in_ok-place-in-len1-up-shape.count
    c.in_ok-place-in-len1-up-shape.place (2 ^ 64)
    (omega arith) (omega arith) (omega arith) c.requires c.in_ok-place-in-len1-up-shape.ensures.some in omega (arith, h)

pub returns-in-empty-clause-some : goal.returns-in-empty-clause-some
returns-in-empty-clause-some t c =
    let e = front_none c.args.shape.now c.args.indices.now (omega arith) in (e.0, sym e.1, sym e.2)
