use Rattle.std.proofs.Common.{map, string_bytes}
use Rattle.zarr_cli.specs.Answers.{outside}
use Rattle.zarr_cli.specs.Status.{settings_view}
use Rattle.zarr_cli.proofs.RanLaws.{answers_lines, named_lines}
use Rattle.zarr_cli.proofs.running.run_lines.Goals as goal

pub returns-clause-answers : goal.returns-clause-answers
returns-clause-answers g c =
    answers_lines (g.A.CommandArray.costs c.args.array.now) (g.A.CommandArray.described c.args.array.now)
    (settings_view c.args.words.now) (map string_bytes c.args.lines.now)
    (outside (g.W.Sink.shown c.args.sink.now) (g.S.Store.shown c.args.store.now))
    (outside (g.W.Sink.shown c.write_output.new.sink) (g.S.Store.shown c.text_of_lines-output.new.store))
    c.text_of_lines-output.result c.write_output.result c.text_of_lines-output.ensures c.write_output.ensures

pub returns-clause-named : goal.returns-clause-named
returns-clause-named g c =
    named_lines (g.A.CommandArray.costs c.args.array.now) (g.A.CommandArray.described c.args.array.now)
    (settings_view c.args.words.now) (map string_bytes c.args.lines.now)
    (outside (g.W.Sink.shown c.args.sink.now) (g.S.Store.shown c.args.store.now))
    (outside (g.W.Sink.shown c.write_output.new.sink) (g.S.Store.shown c.text_of_lines-output.new.store))
    c.text_of_lines-output.result c.write_output.result c.text_of_lines-output.ensures c.write_output.ensures
