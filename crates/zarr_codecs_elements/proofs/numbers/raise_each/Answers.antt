use Rattle.std.proofs.Common.{◌≡◌, ◌++◌, ◌∙◌, ap, subst, sym, ℕ, List}
use Rattle.zarr_codecs_elements.specs.Numbers.{each_piece, raised}
use Rattle.zarr_codecs_elements.proofs.PieceLaws.{raise_step, raise_end}
use Rattle.zarr_codecs_elements.proofs.numbers.raise_each.Goals as goal

pub loop-rest-preserved : goal.loop-rest-preserved
loop-rest-preserved c =
    let whole = each_piece (raised c.args.amount) c.args.size c.args.bytes.now in
    let made = c.in_ok-push_raised.ensures
    ∙ ap (λ (xs : List ℕ). c.loop-rest.out.items ++ raised c.args.amount xs) c.split_at.ensures.front in
    subst (λ (xs : List ℕ). c.push_raised.new.out.items ++ each_piece (raised c.args.amount) c.args.size xs ≡
    whole) (sym c.split_at.ensures.back)
    (raise_step c.args.amount c.args.size c.loop-rest.rest.now c.loop-rest.out.items c.push_raised.new.out.items whole
    c.requires.some c.loop-rest-test.true c.loop-rest.invariant made)

pub returns : goal.returns
returns c = raise_end c.args.amount c.args.size c.loop-rest.rest.now c.loop-rest.out.items
    (each_piece (raised c.args.amount) c.args.size c.args.bytes.now) c.loop-rest-test.false c.loop-rest.invariant
