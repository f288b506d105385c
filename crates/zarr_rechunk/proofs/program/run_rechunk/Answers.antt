use Rattle.std.proofs.Common.{◌≡◌, []}
use Rattle.zarr_model.specs.Prelude.{Rose}
use Rattle.zarr_cli.specs.Status.{words_of}
use Rattle.zarr_rechunk.specs.Input.{move_verdict}
use Rattle.zarr_rechunk.specs.Program.{seen_both}
use Rattle.zarr_rechunk.specs.Said.{both}
use Rattle.zarr_rechunk.proofs.SaidLaws.{verdict_early}
use Rattle.zarr_rechunk.proofs.AnswerLaws.{answers_move, ends_moved, named_last, read_rose}
use Rattle.zarr_rechunk.proofs.program.run_rechunk.Goals as goal

pub returns-clause-told : goal.returns-clause-told
returns-clause-told g c = λ input left.
    let before = seen_both (g.R.Source.shown c.args.source.now) (g.W.Sink.shown c.args.sink.now)
    (g.S.Store.shown c.args.from.now) (g.T.Store.shown c.args.to.now) in
    let now = seen_both (g.R.Source.shown c.text_of_words-output.new.source) (g.W.Sink.shown c.write_moved.new.sink)
    (g.S.Store.shown c.text_of_words-output.new.from) (g.T.Store.shown c.text_of_words-output.new.to) in
    answers_move (move_verdict (words_of c.args.words.now) input) before now c.text_of_words-output.result
    c.write_moved.result (verdict_early (words_of c.args.words.now) input)
    (read_rose (¬ (words_of c.args.words.now ≡ [])) (Rose before.source.faults now.source.faults) (both before.from
    before.to) (both now.from now.to) c.text_of_words-output.result c.text_of_words-output.ensures.plain)
    (c.text_of_words-output.ensures.ran.ran input left) (c.text_of_words-output.ensures.ran.whole input left)
    c.write_moved.ensures

pub returns-clause-ends : goal.returns-clause-ends
returns-clause-ends g c =
    ends_moved (words_of c.args.words.now) (seen_both (g.R.Source.shown c.args.source.now)
    (g.W.Sink.shown c.args.sink.now) (g.S.Store.shown c.args.from.now) (g.T.Store.shown c.args.to.now))
    (seen_both (g.R.Source.shown c.text_of_words-output.new.source) (g.W.Sink.shown c.write_moved.new.sink)
    (g.S.Store.shown c.text_of_words-output.new.from) (g.T.Store.shown c.text_of_words-output.new.to))
    c.text_of_words-output.result c.write_moved.result c.text_of_words-output.ensures.plain
    c.text_of_words-output.ensures.unread c.write_moved.ensures

pub returns-clause-named : goal.returns-clause-named
returns-clause-named g c =
    named_last (¬ (words_of c.args.words.now ≡ [])) (seen_both (g.R.Source.shown c.args.source.now)
    (g.W.Sink.shown c.args.sink.now) (g.S.Store.shown c.args.from.now) (g.T.Store.shown c.args.to.now))
    (seen_both (g.R.Source.shown c.text_of_words-output.new.source) (g.W.Sink.shown c.write_moved.new.sink)
    (g.S.Store.shown c.text_of_words-output.new.from) (g.T.Store.shown c.text_of_words-output.new.to))
    c.text_of_words-output.result c.write_moved.result c.text_of_words-output.ensures.plain c.write_moved.ensures
