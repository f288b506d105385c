use Rattle.std.proofs.Common.{◌+◌, ◌-◌, ◌*◌, length, take, drop, get_or, arith, sym, ◌∙◌, eqb-true}
use Rattle.zarr_codecs_elements.specs.Moved.{strided}
use Rattle.zarr_codecs_elements.proofs.LoopLaws.{run_is, next_part}
use Rattle.zarr_codecs_elements.proofs.places.+push_strided.Goals as goal

pub returns-then-is_empty : goal.returns-then-is_empty
returns-then-is_empty t c =
    run_is c.push_run.result c.args.shape.now c.args.steps.now c.args.out.now.items c.push_run.new.out.items c.args.from
    (omega (arith, c.in-len1-up.len_at_least)) (omega (arith, c.in-len1-up-steps.len_at_least))
    (eqb-true (length (take (length c.args.shape.now - 1) (drop 1 c.args.shape.now))) 0
    (sym c.is_empty.ensures ∙ c.if-is_empty.true)) c.push_run.ensures

pub loop-i-preserved : goal.loop-i-preserved
loop-i-preserved t c =
    let shape = c.args.shape.now in
    let steps = c.args.steps.now in
    next_part (λ i. strided (take (length shape - 1) (drop 1 shape)) (take (length steps - 1) (drop 1 steps))
    (c.args.from + i * get_or steps 0 0)) c.loop-i.out.items c.push_strided.new.out.items _ c.loop-i.i
    (get_or shape 0 0)
    c.loop-i-test.true c.in_ok-push_strided.ensures c.loop-i.invariant
