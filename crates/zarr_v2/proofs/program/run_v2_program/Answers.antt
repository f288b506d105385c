use Rattle.std.proofs.Common.{◌≡◌, Some, None, sym, ◌∙◌, subst}
use Rattle.std.proofs.lemmas.Option.{same_Some}
use Rattle.zarr_cli.specs.Seen.{seen}
use Rattle.zarr_cli.specs.Status.{words_of, settings_view}
use Rattle.zarr_cli.proofs.WordLemmas.{reading_is, reads_by}
use Rattle.zarr_v2.specs.Ending.{ending_v2}
use Rattle.zarr_v2.specs.Answers.{AnswersV2}
use Rattle.zarr_v2.proofs.program.run_v2_program.Goals as goal

pub returns-in-Some-clause-told : goal.returns-in-Some-clause-told
returns-in-Some-clause-told g c = λ settings reads input e.
    subst (λ s. AnswersV2 s input
    (seen (g.R.Source.shown c.args.source.now) (g.W.Sink.shown c.args.sink.now) (g.S.Store.shown c.args.store.now))
    (seen (g.R.Source.shown c.run_input.new.source) (g.W.Sink.shown c.run_input.new.sink)
    (g.S.Store.shown c.run_input.new.store))
    (ending_v2 c.run_input.result))
    (same_Some (settings_view c.in-Some.settings) settings
    (c.in-Some.ensures ∙ reading_is (words_of c.args.words.now) settings reads)) (c.run_input.ensures.told input e)

pub returns-in-Some-clause-ends : goal.returns-in-Some-clause-ends
returns-in-Some-clause-ends g c = c.run_input.ensures.ends (words_of c.args.words.now)
    (reads_by (words_of c.args.words.now) (settings_view c.in-Some.settings) (sym c.in-Some.ensures))

pub returns-in-None-clause-told : goal.returns-in-None-clause-told
returns-in-None-clause-told g c = λ settings reads input e.
    absurd (let both : None ≡ Some settings =
    c.in-None.ensures ∙ reading_is (words_of c.args.words.now) settings reads in cc)
