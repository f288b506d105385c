use Rattle.std.proofs.Common.{map, take, sym, ap, ◌∙◌, subst, le_trans, add-one, arith, Some}
use Rattle.std.proofs.lemmas.List.{length-map}
use Rattle.zarr_model.specs.Prelude.{with_keys, PutsKey, MayPutKey}
use Rattle.zarr_model.proofs.KeyLineLaws.{key-lines}
use Rattle.zarr_cli_runs.specs.lines.Parts.{entry_view}
use Rattle.zarr_cli.specs.Run.{SetsPart}
use Rattle.zarr_cli.proofs.StepLemmas.{entry_here, set_all, listed_key}
use Rattle.zarr_cli.proofs.RunLemmas.{on_err}
use Rattle.zarr_cli.proofs.run.set_entries.Goals as goal

pub returns-in_err-set-clause-failed : goal.returns-in_err-set-clause-failed
returns-in_err-set-clause-failed g c =
    let entries = map entry_view c.args.entries.now in
    let entry = c.entry-item.result in
    let i = c.loop-entry.entry-index in
    let old = (g.S.Store.shown c.args.store.now).content in
    let mid = (g.S.Store.shown c.loop-entry.store).content in
    let new = (g.S.Store.shown c.set.new.self).content in
    let may =
    subst (λ value. MayPutKey mid new entry.key (Some value)) c.deref.ensures.value c.in_err-set.ensures.failed in
    on_err (SetsPart entries old new) c.from_residual.result (
      i,
      (key-lines entries).fails i (entry_view entry) old mid new (entry_here entry_view c.args.entries.now i entry
          c.loop-entry-test.true (sym c.entry-item.is)) c.loop-entry.invariant.set may,
    )

pub returns-clause-set : goal.returns-clause-set
returns-clause-set g c =
    set_all entry_view c.args.entries.now c.loop-entry.entry-index (g.S.Store.shown c.args.store.now).content
    (g.S.Store.shown c.loop-entry.store).content c.loop-entry-test.false c.loop-entry.invariant.set

pub loop-entry-preserved : goal.loop-entry-preserved
loop-entry-preserved g c =
    let entries = map entry_view c.args.entries.now in
    let entry = c.entry-item.result in
    let i = c.loop-entry.entry-index in
    let here = c.entry-item.is in
    let within = c.loop-entry-test.true in
    let old = (g.S.Store.shown c.args.store.now).content in
    let mid = (g.S.Store.shown c.loop-entry.store).content in
    let new = (g.S.Store.shown c.set.new.self).content in
    let put = subst (λ value. PutsKey mid new entry.key (Some value)) c.deref.ensures.value c.in_ok-set.ensures.ok in
    record {
      set = λ key. (key-lines entries).sets i (entry_view entry) old mid new
          (entry_here entry_view c.args.entries.now i entry within (sym here)) c.loop-entry.invariant.set put key
          ∙ ap (λ n. with_keys (take n entries) old key) (sym (add-one i));
      elsewhere = λ key none. c.in_ok-set.ensures.ok.others key (λ same. none (listed_key entry_view c.args.entries.now
          c.loop-entry.entry-index entry within (sym here) key same)) ∙ c.loop-entry.invariant.elsewhere key none;
      asks = c.in_ok-set.ensures.asks ∙ c.loop-entry.invariant.asks;
      taken = c.in_ok-set.ensures.taken ∙ c.loop-entry.invariant.taken;
      puts = omega (arith, c.in_ok-set.ensures.puts, c.loop-entry.invariant.puts);
      later = le_trans c.loop-entry.invariant.later c.in_ok-set.ensures.cause.later;
    }

pub returns-clause-puts : goal.returns-clause-puts
returns-clause-puts g c =
    let over = c.loop-entry-test.false in
    let most = c.loop-entry.auto.entry-index-end in
    let long = length-map c.args.entries.now entry_view in
    omega (arith, c.loop-entry.invariant.puts, over, most, long)
