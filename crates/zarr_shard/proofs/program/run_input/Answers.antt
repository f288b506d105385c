use Rattle.std.proofs.Common.{map, string_bytes, refl, sym, ap, ◌∙◌, subst}
use Rattle.zarr_model.specs.Prelude.{Rose}
use Rattle.zarr_cli_runs.specs.Status.{ending_of}
use Rattle.zarr_cli.specs.Seen.{seen}
use Rattle.zarr_cli.specs.Status.{settings_view}
use Rattle.zarr_shard.specs.Steps.{IsEarly}
use Rattle.zarr_shard.proofs.EarlyLaws.{answers_ended, fault_early}
use Rattle.zarr_shard.proofs.program.run_input.Goals as goal

pub returns-in-Ok-clause-told : goal.returns-in-Ok-clause-told
returns-in-Ok-clause-told g c = λ input e.
    let read = c.in-Ok.ensures.text input e in
    c.run_document.ensures.told input read.0 read.1
    (ap (map string_bytes) c.deref.ensures.value ∙ read.2) (g.R.Source.shown c.args.source.now)
    (g.R.Source.shown c.read_lines.new.source) (c.in-Ok.ensures.whole input e)

pub returns-in-Ok-clause-ends : goal.returns-in-Ok-clause-ends
returns-in-Ok-clause-ends g c = λ known reads.
    c.run_document.ensures.ends known reads (g.R.Source.shown c.args.source.now)
    (g.R.Source.shown c.read_lines.new.source)

pub returns-in-Err-clause-told : goal.returns-in-Err-clause-told
returns-in-Err-clause-told g c = λ input e.
    let source = g.R.Source.shown c.args.source.now in
    let source_now = g.R.Source.shown c.read_lines.new.source in
    let store = g.S.Store.shown c.args.store.now in
    answers_ended (settings_view c.args.words.now) input (seen source (g.W.Sink.shown c.args.sink.now) store)
    (seen source_now (g.W.Sink.shown c.end_with.new.sink) store) c.fault_status.result c.end_with.result
    c.end_with.ensures
    (subst (λ status. IsEarly input (Rose source.faults source_now.faults) (ending_of status))
    (sym c.fault_status.ensures)
    (fault_early source source_now input e c.in-Err.fault c.in-Err.ensures.fault)) refl
