use Rattle.std.proofs.Common.{◌≡◌, refl, sym, ap, ◌∙◌, subst}
use Rattle.zarr_model.specs.Prelude.{Rose}
use Rattle.zarr_array.specs.OpenArray.{documented, described_array}
use Rattle.zarr_cli_runs.specs.Status.{ending_of}
use Rattle.zarr_cli_runs.specs.lines.Text.{input_lines}
use Rattle.zarr_cli.specs.Lines.{first_line, document_line}
use Rattle.zarr_cli.specs.Run.{open_costs}
use Rattle.zarr_cli.specs.Answers.{AnswersLines, outside}
use Rattle.zarr_cli.specs.Seen.{seen}
use Rattle.zarr_cli.specs.Status.{settings_view}
use Rattle.zarr_v2.specs.Opening.{open_builtin_v2, opened_v2}
use Rattle.zarr_v2.specs.Says.{answer_says_v2}
use Rattle.zarr_v2.specs.Steps.{IsOpenFaultV2}
use Rattle.zarr_v2.proofs.LinesLaws.{answers_of_lines}
use Rattle.zarr_v2.proofs.EarlyLaws.{answers_ended, said, open_early}
use Rattle.zarr_v2.proofs.program.run_document.Goals as goal

pub returns-in-Ok-clause-told : goal.returns-in-Ok-clause-told
returns-in-Ok-clause-told g c = λ input within utf8 same before now whole.
    let settings = settings_view c.args.words.now in
    let array = c.in-Ok.array in
    let opens : open_builtin_v2 (document_line input) ≡ opened_v2 (documented array) =
    ap open_builtin_v2 (sym (c.first_line.ensures ∙ ap first_line same))
    ∙ c.in-Ok.ensures in
    answers_of_lines settings input (documented array)
    (said input within utf8 ∙ ap (answer_says_v2 (input_lines input)) opens) opens
    (seen before (g.W.Sink.shown c.args.sink.now) (g.S.Store.shown c.args.store.now))
    (seen now (g.W.Sink.shown c.run_lines.new.sink) (g.S.Store.shown c.run_lines.new.store))
    (ending_of c.run_lines.result) whole
    (subst (λ lines. AnswersLines (open_costs (documented array)) (described_array array) settings lines
    (outside (g.W.Sink.shown c.args.sink.now) (g.S.Store.shown c.args.store.now))
    (outside (g.W.Sink.shown c.run_lines.new.sink) (g.S.Store.shown c.run_lines.new.store))
    (ending_of c.run_lines.result)) same c.run_lines.ensures.answers)

pub returns-in-Err-clause-told : goal.returns-in-Err-clause-told
returns-in-Err-clause-told g c = λ input within utf8 same before now whole.
    let store = g.S.Store.shown c.args.store.now in
    answers_ended (settings_view c.args.words.now) input (seen before (g.W.Sink.shown c.args.sink.now) store)
    (seen now (g.W.Sink.shown c.end_with_v2.new.sink) store) c.in-Err.status c.end_with_v2.result c.end_with_v2.ensures
    (open_early input within utf8 (Rose before.faults now.faults) c.in-Err.status
    (subst (λ line. IsOpenFaultV2 c.in-Err.status (open_builtin_v2 line)) (c.first_line.ensures ∙ ap first_line same)
    c.in-Err.ensures)) refl
