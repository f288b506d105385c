use Rattle.std.proofs.Common.{refl, sym}
use Rattle.zarr_cli_runs.specs.Status.{ending_of}
use Rattle.zarr_cli.specs.Status.{words_of, settings_view}
use Rattle.zarr_cli.proofs.WordLemmas.{from_made, not_made, bad_not_made, made_not}
use Rattle.zarr_cli.specs.Made.{AnswersMade}
use Rattle.zarr_cli.specs.Seen.{seen}
use Rattle.zarr_cli.proofs.EarlyLaws.{answers_early, ends_early, named_early}
use Rattle.zarr_cli.proofs.program.run_program.Goals as goal

-- the words are bad
pub returns-in_default-clause-told : goal.returns-in_default-clause-told
returns-in_default-clause-told g c = λ nothing input e.
    answers_early (words_of c.args.words.now) input
    (seen (g.R.Source.shown c.args.source.now) (g.W.Sink.shown c.args.sink.now) (g.S.Store.shown c.args.store.now))
    (seen (g.R.Source.shown c.args.source.now) (g.W.Sink.shown c.end_with.new.sink) (g.S.Store.shown c.args.store.now))
    _ c.end_with.result c.end_with.ensures (sym c.in_default.ensures) refl

pub returns-in_default-clause-made : goal.returns-in_default-clause-made
returns-in_default-clause-made g c = λ number options makes.
    absurd (bad_not_made (words_of c.args.words.now) number options (sym c.in_default.ensures) makes)

pub returns-in_default-clause-ends : goal.returns-in_default-clause-ends
returns-in_default-clause-ends g c =
    ends_early (words_of c.args.words.now)
    (seen (g.R.Source.shown c.args.source.now) (g.W.Sink.shown c.args.sink.now) (g.S.Store.shown c.args.store.now))
    (seen (g.R.Source.shown c.args.source.now) (g.W.Sink.shown c.end_with.new.sink) (g.S.Store.shown c.args.store.now))
    _ c.end_with.result c.end_with.ensures (sym c.in_default.ensures) refl (λ bad. (refl, refl))

-- they make a run from a number
pub returns-in-Some-make-clause-told : goal.returns-in-Some-make-clause-told
returns-in-Some-make-clause-told g c = λ nothing input e. absurd (made_not (words_of c.args.words.now)
    (settings_view c.in-Some.words) c.in-Some-make.number (sym c.in-Some.ensures) c.in-Some-make.is nothing)

pub returns-in-Some-make-clause-made : goal.returns-in-Some-make-clause-made
returns-in-Some-make-clause-made g c =
    from_made (λ number options. AnswersMade number options
    (seen (g.R.Source.shown c.args.source.now) (g.W.Sink.shown c.args.sink.now) (g.S.Store.shown c.args.store.now))
    (seen (g.R.Source.shown c.args.source.now) (g.W.Sink.shown c.run_number.new.sink)
    (g.S.Store.shown c.run_number.new.store)) (ending_of c.run_number.result))
    (words_of c.args.words.now) (settings_view c.in-Some.words) c.in-Some-make.number (sym c.in-Some.ensures)
    c.in-Some-make.is (c.run_number.ensures.made (g.R.Source.shown c.args.source.now))

pub returns-in-Some-make-clause-ends : goal.returns-in-Some-make-clause-ends
returns-in-Some-make-clause-ends g c =
    c.run_number.ensures.ends (words_of c.args.words.now) (sym c.in-Some.ensures) (g.R.Source.shown c.args.source.now)

-- they call for an input
pub returns-in-None-clause-told : goal.returns-in-None-clause-told
returns-in-None-clause-told g c = λ nothing input e.
    c.run_input.ensures.told (words_of c.args.words.now) (sym c.in-Some.ensures, c.in-None.is) input e

pub returns-in-None-clause-made : goal.returns-in-None-clause-made
returns-in-None-clause-made g c = λ number options makes. absurd (not_made (words_of c.args.words.now)
    (settings_view c.in-Some.words) number options (sym c.in-Some.ensures) c.in-None.is makes)

pub returns-in-None-clause-ends : goal.returns-in-None-clause-ends
returns-in-None-clause-ends g c =
    c.run_input.ensures.ends (words_of c.args.words.now) (sym c.in-Some.ensures, c.in-None.is)

pub returns-in_default-clause-named : goal.returns-in_default-clause-named
returns-in_default-clause-named g c =
    named_early (words_of c.args.words.now) ⊥ _ c.end_with.result c.end_with.ensures.which (sym c.in_default.ensures)
