use Rattle.std.proofs.Common.{rules, arith, ◌+◌, ◌∷◌, drop, get_or, ap, sym, ◌∙◌}
use Rattle.std.proofs.lemmas.List.{drop_more}
use Rattle.zarr_array_boxes.proofs.PlaceRunLaws.{one_placed, all_placed, nowhere_run}
use Rattle.zarr_array_boxes.proofs.place_runs.rising_picks.Goals as goal

pub loop-run-preserved : goal.loop-run-preserved
loop-run-preserved c =
    one_placed c.args.given.now.runs.items c.args.count c.args.given.now.total c.loop-run.run-index c.loop-run.next
    (get_or c.deref-run-items.result.now c.loop-run.run-index nowhere_run)
    c.loop-run.picks.items c.push_blanks.new.picks.items c.push.new.self.items
    (drop_more c.args.given.now.runs.items c.loop-run.run-index nowhere_run (search rules)
    ∙ ap (λ l. get_or l c.loop-run.run-index nowhere_run ∷ drop (c.loop-run.run-index + 1) c.args.given.now.runs.items)
    (sym c.deref-run-items.ensures.value))
    (search rules) c.if-run-next.false c.in_ok-push_blanks.ensures c.in_ok-push.ensures.items c.loop-run.invariant

pub returns-clause-picks : goal.returns-clause-picks
returns-clause-picks c =
    all_placed c.args.given.now.runs.items c.args.count c.args.given.now.total c.loop-run.run-index c.loop-run.next
    c.loop-run.picks.items c.push_blanks-2.new.picks.items
    (omega (arith, c.loop-run-test.false)) c.in_ok-push_blanks-2.ensures c.loop-run.invariant
