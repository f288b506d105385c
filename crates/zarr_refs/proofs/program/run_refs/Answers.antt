use Rattle.std.proofs.Common.{◌≡◌, None}
use Rattle.zarr_model.specs.Prelude.{Rose}
use Rattle.zarr_cli.specs.Status.{words_of}
use Rattle.zarr_cli.specs.Seen.{seen}
use Rattle.zarr_refs.specs.Input.{verdict, word_options}
use Rattle.zarr_refs.proofs.SaidLaws.{verdict_early}
use Rattle.zarr_refs.proofs.AnswerLaws.{answers_refs, ends_refs, named_last, read_rose}
use Rattle.zarr_refs.proofs.program.run_refs.Goals as goal

pub returns-clause-told : goal.returns-clause-told
returns-clause-told g c = λ input left.
    let before =
    seen (g.R.Source.shown c.args.source.now) (g.W.Sink.shown c.args.sink.now) (g.S.Store.shown c.args.store.now) in
    let now = seen (g.R.Source.shown c.text_of_words-output.new.source) (g.W.Sink.shown c.write_refs.new.sink)
    (g.S.Store.shown c.text_of_words-output.new.store) in
    answers_refs (verdict (words_of c.args.words.now) input) before now c.text_of_words-output.result
    c.write_refs.result (verdict_early (words_of c.args.words.now) input)
    (read_rose (word_options (words_of c.args.words.now) ≡ None) (Rose before.source.faults now.source.faults)
    before.store now.store c.text_of_words-output.result c.text_of_words-output.ensures.plain)
    (c.text_of_words-output.ensures.ran.ran input left) (c.text_of_words-output.ensures.ran.whole input left)
    c.write_refs.ensures

pub returns-clause-ends : goal.returns-clause-ends
returns-clause-ends g c =
    ends_refs (words_of c.args.words.now)
    (seen (g.R.Source.shown c.args.source.now) (g.W.Sink.shown c.args.sink.now) (g.S.Store.shown c.args.store.now))
    (seen (g.R.Source.shown c.text_of_words-output.new.source) (g.W.Sink.shown c.write_refs.new.sink)
    (g.S.Store.shown c.text_of_words-output.new.store))
    c.text_of_words-output.result c.write_refs.result c.text_of_words-output.ensures.plain
    c.text_of_words-output.ensures.unread c.write_refs.ensures

pub returns-clause-named : goal.returns-clause-named
returns-clause-named g c =
    named_last (word_options (words_of c.args.words.now) ≡ None) (seen (g.R.Source.shown c.args.source.now)
    (g.W.Sink.shown c.args.sink.now) (g.S.Store.shown c.args.store.now))
    (seen (g.R.Source.shown c.text_of_words-output.new.source) (g.W.Sink.shown c.write_refs.new.sink)
    (g.S.Store.shown c.text_of_words-output.new.store))
    c.text_of_words-output.result c.write_refs.result c.text_of_words-output.ensures.plain c.write_refs.ensures
