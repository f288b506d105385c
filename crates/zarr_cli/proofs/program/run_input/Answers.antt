use Rattle.std.proofs.Common.{[], map, string_bytes, refl, sym, ap, ◌∙◌, subst}
use Rattle.zarr_model.specs.Prelude.{Rose}
use Rattle.zarr_cli.specs.Status.{settings_view, fault_status}
use Rattle.zarr_cli.specs.Seen.{seen}
use Rattle.zarr_cli.specs.ProgramSteps.{IsEarlyFault, IsPlainFault}
use Rattle.zarr_cli.proofs.EarlyLaws.{answers_early, ends_early, fault_early, fault_plain, named_early, not_both}
use Rattle.zarr_cli.proofs.program.run_input.Goals as goal

pub returns-in-Ok-clause-told : goal.returns-in-Ok-clause-told
returns-in-Ok-clause-told g c = λ known reads input e.
    let read = c.in-Ok.ensures.text input e in
    c.run_document.ensures.told known reads input read.0 read.1 (ap (map string_bytes) c.deref.ensures.value ∙ read.2)
    (g.R.Source.shown c.args.source.now) (g.R.Source.shown c.read_lines.new.source) (c.in-Ok.ensures.whole input e)

pub returns-in-Ok-clause-ends : goal.returns-in-Ok-clause-ends
returns-in-Ok-clause-ends g c = λ known reads.
    c.run_document.ensures.ends known reads (g.R.Source.shown c.args.source.now)
    (g.R.Source.shown c.read_lines.new.source)

pub returns-in-Err-clause-told : goal.returns-in-Err-clause-told
returns-in-Err-clause-told g c = λ known reads input e.
    let source = g.R.Source.shown c.args.source.now in
    let source_now = g.R.Source.shown c.read_lines.new.source in
    let store = g.S.Store.shown c.args.store.now in
    answers_early known input (seen source (g.W.Sink.shown c.args.sink.now) store) (seen source_now
    (g.W.Sink.shown c.end_with.new.sink) store) c.fault_status.result c.end_with.result c.end_with.ensures
    (subst (IsEarlyFault known input (Rose source.faults source_now.faults)) (sym c.fault_status.ensures) (fault_early
    known (settings_view c.args.words.now) reads source source_now input e c.in-Err.fault c.in-Err.ensures.fault)) refl

pub returns-in-Err-clause-ends : goal.returns-in-Err-clause-ends
returns-in-Err-clause-ends g c = λ known reads.
    let source = g.R.Source.shown c.args.source.now in
    let source_now = g.R.Source.shown c.read_lines.new.source in
    let store = g.S.Store.shown c.args.store.now in
    ends_early known (seen source (g.W.Sink.shown c.args.sink.now) store) (seen source_now
    (g.W.Sink.shown c.end_with.new.sink) store) c.fault_status.result c.end_with.result c.end_with.ensures
    (subst (IsPlainFault known (Rose source.faults source_now.faults)) (sym c.fault_status.ensures)
    (fault_plain known source source_now c.in-Err.fault c.in-Err.ensures.fault)) refl
    (λ bad. absurd (not_both known (settings_view c.args.words.now) bad reads.0))

pub returns-in-Err-clause-named : goal.returns-in-Err-clause-named
returns-in-Err-clause-named g c =
    let source = g.R.Source.shown c.args.source.now in
    let source_now = g.R.Source.shown c.read_lines.new.source in
    named_early [] (Rose source.faults source_now.faults) c.fault_status.result c.end_with.result
    c.end_with.ensures.which
    (subst (IsPlainFault [] (Rose source.faults source_now.faults)) (sym c.fault_status.ensures)
    (fault_plain [] source source_now c.in-Err.fault c.in-Err.ensures.fault))
