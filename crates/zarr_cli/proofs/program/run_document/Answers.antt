use Rattle.std.proofs.Common.{◌≡◌, [], map, string_bytes, refl, sym, ap, ◌∙◌, subst}
use Rattle.zarr_model.specs.Prelude.{Rose}
use Rattle.zarr_cli_runs.specs.array.OpenArray.{documented, described_array}
use Rattle.zarr_cli_runs.specs.array.parts.Opening.{open_builtin, opened}
use Rattle.zarr_cli_runs.specs.Opening.{IsOpenFault}
use Rattle.zarr_cli_runs.specs.Status.{ending_of}
use Rattle.zarr_cli.specs.Run.{open_costs}
use Rattle.zarr_cli.specs.Answers.{AnswersLines, outside}
use Rattle.zarr_cli.specs.Status.{settings_view}
use Rattle.zarr_cli.specs.ProgramInput.{first_line, document_line}
use Rattle.zarr_cli.specs.Seen.{seen}
use Rattle.zarr_cli.proofs.LinesLaws.{answers_of_lines, ends_of_lines}
use Rattle.zarr_cli.proofs.EarlyLaws.{answers_early, ends_early, open_early, open_plain, named_early, not_both}
use Rattle.zarr_cli.proofs.program.run_document.Goals as goal

pub returns-in-Ok-clause-told : goal.returns-in-Ok-clause-told
returns-in-Ok-clause-told g c = λ known reads input within utf8 same before now whole.
    let settings = settings_view c.args.words.now in
    let array = c.in-Ok.array in
    let opens : open_builtin (document_line input) ≡ opened (documented array) =
    ap open_builtin (sym (c.first_line.ensures ∙ ap first_line same)) ∙ c.in-Ok.ensures in
    answers_of_lines known settings reads input (documented array) within utf8 opens
    (seen before (g.W.Sink.shown c.args.sink.now) (g.S.Store.shown c.args.store.now)) (seen now
    (g.W.Sink.shown c.run_lines.new.sink) (g.S.Store.shown c.run_lines.new.store)) (ending_of c.run_lines.result) whole
    (subst (λ lines. AnswersLines (open_costs (documented array)) (described_array array) settings lines
    (outside (g.W.Sink.shown c.args.sink.now) (g.S.Store.shown c.args.store.now))
    (outside (g.W.Sink.shown c.run_lines.new.sink) (g.S.Store.shown c.run_lines.new.store))
    (ending_of c.run_lines.result)) same c.run_lines.ensures.answers)

pub returns-in-Ok-clause-ends : goal.returns-in-Ok-clause-ends
returns-in-Ok-clause-ends g c = λ known reads before now.
    ends_of_lines known (settings_view c.args.words.now) reads (documented c.in-Ok.array)
    (map string_bytes c.args.lines.now)
    (seen before (g.W.Sink.shown c.args.sink.now) (g.S.Store.shown c.args.store.now)) (seen now
    (g.W.Sink.shown c.run_lines.new.sink) (g.S.Store.shown c.run_lines.new.store)) (ending_of c.run_lines.result)
    c.run_lines.ensures.answers

pub returns-in-Err-clause-told : goal.returns-in-Err-clause-told
returns-in-Err-clause-told g c = λ known reads input within utf8 same before now whole.
    let store = g.S.Store.shown c.args.store.now in
    answers_early known input (seen before (g.W.Sink.shown c.args.sink.now) store)
    (seen now (g.W.Sink.shown c.end_with.new.sink) store) c.in-Err.status c.end_with.result c.end_with.ensures
    (open_early known (settings_view c.args.words.now) reads input within utf8 (Rose before.faults now.faults)
    c.in-Err.status
    (subst (λ line. IsOpenFault c.in-Err.status (open_builtin line)) (c.first_line.ensures ∙ ap first_line same)
    c.in-Err.ensures)) refl

pub returns-in-Err-clause-ends : goal.returns-in-Err-clause-ends
returns-in-Err-clause-ends g c = λ known reads before now.
    let store = g.S.Store.shown c.args.store.now in
    ends_early known (seen before (g.W.Sink.shown c.args.sink.now) store)
    (seen now (g.W.Sink.shown c.end_with.new.sink) store) c.in-Err.status c.end_with.result c.end_with.ensures
    (open_plain known _ (Rose before.faults now.faults) c.in-Err.status c.in-Err.ensures) refl
    (λ bad. absurd (not_both known (settings_view c.args.words.now) bad reads.0))

pub returns-in-Err-clause-named : goal.returns-in-Err-clause-named
returns-in-Err-clause-named g c = named_early [] ⊥ c.in-Err.status c.end_with.result c.end_with.ensures.which
    (open_plain [] _ ⊥ c.in-Err.status c.in-Err.ensures)
